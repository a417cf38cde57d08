-- The definitions of `census`.
pub mod Census
