-- The laws of `census`.
pub mod Sizes
pub mod Word
pub mod Words
