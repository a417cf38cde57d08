-- The laws of `door`.
pub mod Given
pub mod Doors
pub mod Training
