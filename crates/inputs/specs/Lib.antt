-- The definitions of `inputs`: the bytes that a text spells.
pub mod Spelling
