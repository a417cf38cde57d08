-- The definitions of `waiting`.
pub mod Waiting
