-- The laws of `trainer`.
pub mod Rows
pub mod Weights
pub mod Table
pub mod Rooms
pub mod Whole
