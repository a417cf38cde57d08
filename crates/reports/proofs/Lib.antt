-- The laws of `reports`.
pub mod Listed
pub mod Touches
pub mod Changes
pub mod Sides
