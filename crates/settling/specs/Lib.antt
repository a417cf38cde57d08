-- The definitions of `settling`.
pub mod Settling
