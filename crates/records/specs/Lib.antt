-- The definitions of `records`.
pub mod Records
