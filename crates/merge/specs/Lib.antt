-- The definitions of `merge`: what rewriting a pair does to the cells of a word, to a word of a set, and to all its words.
pub mod Cells
pub mod Merging
