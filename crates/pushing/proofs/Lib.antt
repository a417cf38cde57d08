-- The laws of `pushing`.
pub mod Pushing
