-- The laws of `spells`.
pub mod Equal
pub mod Hash
