-- The definitions of `queue`: candidates in cells, the order of a heap, what pushing and popping do, and the list that callers see.
pub mod Candidates
pub mod Order
pub mod Heap
pub mod Holding
