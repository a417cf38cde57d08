-- The definitions of `engine`.
pub mod Engine
