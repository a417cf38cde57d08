-- The definitions of `codes`: the text of some merges, and what writing it answers and leaves.
pub mod Codes
pub mod Writing
