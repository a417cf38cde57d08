-- The laws of `queue`.
pub mod Order
pub mod Candidates
pub mod Sift
pub mod Bag
pub mod Holding
