-- The laws of the bits of words and of membership in rows, and the proofs of the functions.
pub mod Bits
pub mod Members
pub mod Rest
pub mod Making
