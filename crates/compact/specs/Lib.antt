-- The definitions of `compact`.
pub mod Compacting
