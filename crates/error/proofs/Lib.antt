-- The laws of `error`: the answer run, and the answers.
pub mod Told
pub mod Answers
