-- The laws of `recount`.
pub mod Picking
pub mod Scanning
pub mod Choices
