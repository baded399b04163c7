-- Sets of pairs in tables of words, and what the tables of values and verdicts hold.
pub mod Sets
pub mod Values
