-- The laws of `symbols`.
pub mod Writing
pub mod Passes
pub mod Answers
