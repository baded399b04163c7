-- The laws of the entry points: what was read, then solving, checking, also under the old code, ranking and totals by fitting.
pub mod Solves
pub mod Checks
pub mod OldChecks
pub mod Ranks
pub mod Totals
