-- The laws of `codes`.
pub mod Lengths
pub mod Laying
pub mod Answers
pub mod Back
pub mod Examples
