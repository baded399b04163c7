-- What solving a case for its sets, or one pair, leaves and answers.
pub mod Settled
