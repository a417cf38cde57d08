-- The laws of `compact`.
pub mod Sliding
