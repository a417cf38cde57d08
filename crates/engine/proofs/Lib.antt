-- The laws of `engine`: sums and bounds of the words, the queue of the lazy rule, a start stage by stage, a merge stage by stage.
pub mod Sums
pub mod Queues
pub mod Starting
pub mod Merging
