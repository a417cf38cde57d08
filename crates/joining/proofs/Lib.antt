-- The laws of `joining`.
pub mod Beneath
pub mod Steps
pub mod Words
pub mod Following
pub mod Running
pub mod Joining
pub mod Visiting
