-- The laws of `reader`.
pub mod Answers
