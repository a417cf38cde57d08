-- The laws of `lengths`.
pub mod Joined
