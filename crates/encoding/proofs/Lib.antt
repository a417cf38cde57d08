-- The laws of `encoding`.
pub mod Wording
pub mod Entering
pub mod Words
