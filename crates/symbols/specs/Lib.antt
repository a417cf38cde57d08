-- The definitions of `symbols`: lists written from the front of a run, and what merging leaves.
pub mod Writing
pub mod Merging
