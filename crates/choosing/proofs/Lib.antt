-- The laws of `choosing`.
pub mod Small
pub mod Frames
pub mod Queues
pub mod Turns
