-- The definitions of `pairs`.
pub mod View
pub mod Pairs
