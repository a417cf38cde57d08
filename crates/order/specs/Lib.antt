-- The definitions of `order`: the byte order of two lists.
pub mod Order
