-- The definitions of `lengths`: where a piece stands.
pub mod Places
