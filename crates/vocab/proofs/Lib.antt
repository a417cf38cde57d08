-- The laws of `vocab`.
pub mod Places
pub mod Shaped
pub mod Reading
