-- The laws of `marks`.
pub mod Marks
pub mod Masks
pub mod Each
