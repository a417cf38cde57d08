-- The definitions of `states`.
pub mod State
pub mod Tracking
