-- The laws of `chars`.
pub mod Places
