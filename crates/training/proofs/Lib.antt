-- The laws of `training`.
pub mod Turning
pub mod Looping
