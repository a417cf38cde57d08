-- The definitions of `choosing`: what is told of the next merge, and of one turn.
pub mod Choosing
pub mod Turns
