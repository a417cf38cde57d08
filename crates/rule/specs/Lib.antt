-- Document 01 as definitions: what training, reading a piece and merging symbols answer and leave, for every input.
pub mod Shapes
pub mod Table
pub mod Spelling
pub mod Seeding
pub mod Rewriting
pub mod Training
pub mod Demand
pub mod Layout
pub mod Refusals
pub mod Outcome
pub mod Sums
