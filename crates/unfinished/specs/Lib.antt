-- What one round leaves.
pub mod Rounds
