-- The laws of `states`.
pub mod Keys
pub mod Notes
pub mod Reports
pub mod Hits
pub mod Tracks
pub mod Gains
pub mod Touches
pub mod Counts
