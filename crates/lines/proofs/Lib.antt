-- The laws of `lines`.
pub mod Scans
pub mod Cuts
pub mod Judged
pub mod Writing
pub mod Answers
pub mod Back
pub mod Examples
