-- The definitions of `notes`.
pub mod Notes
