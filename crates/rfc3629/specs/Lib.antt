-- The definitions: RFC 3629 by itself, its syntax as a test, the cut of a word.
pub mod Rfc3629
pub mod Rows
pub mod Cut
