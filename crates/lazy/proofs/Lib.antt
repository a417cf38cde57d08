-- The laws of `lazy`.
pub mod Order
pub mod Old
pub mod Spots
pub mod Queue
pub mod Invariant
pub mod Stale
pub mod Bound
pub mod Same
pub mod Table
pub mod Steps
pub mod Loop
pub mod Canon
pub mod Gains
pub mod Falling
pub mod Examples
