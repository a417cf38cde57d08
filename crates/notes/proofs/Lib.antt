-- The laws of `notes`.
pub mod Credits
pub mod Steps
pub mod Adding
pub mod Moving
