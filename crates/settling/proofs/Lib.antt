-- The laws of `settling`.
pub mod One
pub mod Loop
