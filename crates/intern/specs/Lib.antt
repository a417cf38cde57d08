-- The definitions of `intern`: pieces in two runs, a lookup in cells, what interning does, and many spellings interned.
pub mod Pieces
pub mod Spelled
pub mod Seek
pub mod Intern
pub mod Many
