-- The laws of `step`.
pub mod Steps
