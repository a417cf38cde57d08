-- The laws of `units`.
pub mod Packed
pub mod Noting
pub mod Gathering
pub mod Popping
pub mod Draining
