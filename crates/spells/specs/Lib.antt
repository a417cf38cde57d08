-- The definitions of `spells`: the hash of a spelling.
pub mod Hash
