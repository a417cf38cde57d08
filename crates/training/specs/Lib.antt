-- The definitions of `training`: one merge made, and all of them.
pub mod Training
