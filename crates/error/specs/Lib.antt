-- The definitions of `error`: what each answer says.
pub mod Answers
