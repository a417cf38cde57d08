-- The laws of `fields`.
pub mod Fields
