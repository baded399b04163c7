-- The laws of tables as sets of pairs, of sets by value, of values and verdicts as bytes, of tallies, and of what is answered.
pub mod Sets
pub mod Raised
pub mod Valued
pub mod Tallying
pub mod Answered
