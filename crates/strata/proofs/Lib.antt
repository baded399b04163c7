-- The laws of the rows that ranking marks and of the bytes that it writes; and the proofs of the functions.
pub mod Marking
pub mod Writing
