-- The laws of `output`.
pub mod Appending
