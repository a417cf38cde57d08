-- The definitions of `marks`.
pub mod Marks
pub mod Places
