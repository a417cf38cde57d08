-- The definitions of `spelling`: the length of a spelling, a spelling written, the units of a word with their decoration.
pub mod Lengths
pub mod Writing
pub mod Units
