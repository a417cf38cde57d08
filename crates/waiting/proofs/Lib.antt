-- The laws of `waiting`.
pub mod Gainers
pub mod Queue
pub mod Entered
pub mod Gained
