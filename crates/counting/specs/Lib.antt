-- The definitions of `counting`.
pub mod Counting
