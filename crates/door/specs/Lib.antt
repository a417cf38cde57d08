-- The definitions of `door`.
pub mod Door
