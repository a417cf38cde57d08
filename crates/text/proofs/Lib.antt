-- The laws of `text`: a character at a place of a word, the loops over a word, and the steps of a caller's loop.
pub mod Loops
pub mod Steps
