-- The definitions of `output`: what a merge adds to the answer.
pub mod Output
