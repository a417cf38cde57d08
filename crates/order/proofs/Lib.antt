-- The laws of `order`.
pub mod Ordered
pub mod Comparing
