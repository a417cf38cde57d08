-- The definitions of `arena`.
pub mod Claims
