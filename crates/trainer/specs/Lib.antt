-- The definitions of `trainer`: what training answers, and what it leaves in the rooms.
pub mod Train
