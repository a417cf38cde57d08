-- The laws of `merge`.
pub mod Runs
pub mod Changes
pub mod Merging
pub mod Joined
