-- The laws of `layout`.
pub mod Fits
