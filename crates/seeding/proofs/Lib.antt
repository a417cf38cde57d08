-- The laws of `seeding`.
pub mod Stages
pub mod Whole
