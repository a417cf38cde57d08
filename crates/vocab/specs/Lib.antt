-- The definitions of `vocab`: what a lookup answers, and the numbers of a run from a place on.
pub mod Reading
pub mod Places
