-- The definitions of `alphabet`: many spellings interned, as a function answers it.
pub mod Seeds
