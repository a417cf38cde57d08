-- The definitions of `index`: probing, and the index with what its functions do to it.
pub mod Probe
pub mod Index
