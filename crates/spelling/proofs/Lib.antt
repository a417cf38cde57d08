-- The laws of `spelling`.
pub mod Prefixes
pub mod Lengths
pub mod Writing
pub mod Units
