-- The definitions of `lists`.
pub mod Lists
