-- The definitions of `table`: the weight and the units of a table, and what the first seven rows come to.
pub mod Weighing
pub mod Answers
