-- The definitions of `word`: the words of a corpus in a room of cells.
pub mod Layout
