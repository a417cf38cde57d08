-- The laws of `word`.
pub mod Views
pub mod Sets
