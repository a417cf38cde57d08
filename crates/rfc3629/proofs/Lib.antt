-- The examples, then the theorems: the two sections of the RFC agree, the test is the syntax, the units of a word, texts and their cut.
pub mod Examples
pub mod Numbers
pub mod Rows
pub mod Units
pub mod Texts
