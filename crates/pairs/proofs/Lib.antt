-- The laws of `pairs`: a change of one record, no change, an entry, a removal, and what a client goes by.
pub mod Moves
pub mod Still
pub mod Entries
pub mod Removals
pub mod Clients
