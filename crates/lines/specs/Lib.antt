-- The definitions of `lines`: the lines of a text, and what reading it as a word table answers and leaves.
pub mod Lines
pub mod Table
pub mod Places
