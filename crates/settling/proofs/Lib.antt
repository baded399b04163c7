-- The laws of a case solved for its sets, and of a pair that is settled.
pub mod Settled
pub mod Decided
