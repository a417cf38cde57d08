-- The definitions of `units`: a unit as a number, units in a heap without repeats, what gathering and draining do.
pub mod Pack
pub mod Gathering
pub mod Draining
