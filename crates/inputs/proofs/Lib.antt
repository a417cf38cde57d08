-- The laws of `inputs`.
pub mod Reading
