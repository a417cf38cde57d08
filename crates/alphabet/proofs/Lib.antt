-- The laws of `alphabet`.
pub mod Going
