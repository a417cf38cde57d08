-- The laws of `intern`.
pub mod Seek
pub mod Rooms
pub mod Lists
pub mod Interning
pub mod Many
pub mod Elsewhere
pub mod Records
