-- The definitions of `reader`: what a piece handed out is.
pub mod Reader
