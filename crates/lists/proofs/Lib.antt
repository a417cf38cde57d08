-- The laws of `lists`.
pub mod Reading
