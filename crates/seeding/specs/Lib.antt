-- The definitions of `seeding`: the seeds of a table in the rooms, and its words as a set.
pub mod Seeding
