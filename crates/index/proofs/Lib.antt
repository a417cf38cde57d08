-- The laws of `index`.
pub mod Probes
pub mod Slots
pub mod Puts
pub mod Changes
pub mod Clients
