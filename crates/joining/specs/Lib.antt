-- The definitions of `joining`: what merging a pair in its words does, a word while it is rewritten, the words while they are visited.
pub mod Joining
pub mod Running
pub mod Visiting
