-- The laws of `records`.
pub mod Laws
pub mod Frames
