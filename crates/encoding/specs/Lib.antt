-- The definitions of `encoding`: the words of a table in the numbers of their pieces.
pub mod Encoding
