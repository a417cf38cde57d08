-- The definitions of `layout`: the regions of the work room.
pub mod Layout
