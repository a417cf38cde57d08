-- The definitions of `step`: one step of rewriting, and its reports.
pub mod Step
