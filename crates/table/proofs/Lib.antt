-- The laws of `table`.
pub mod Rows
pub mod Order
pub mod Weighing
pub mod Answers
pub mod Passed
