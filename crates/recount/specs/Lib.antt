-- The definitions of `recount`.
pub mod Recount
