-- The definitions of `lazy`.
pub mod Lazy
pub mod Sums
pub mod Invariant
pub mod Loop
