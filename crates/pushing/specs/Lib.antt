-- The definitions of `pushing`.
pub mod Pushing
