-- The definitions of `reports`.
pub mod Reports
