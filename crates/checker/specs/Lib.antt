-- The first fault of a proposal, by code.
pub mod Codes
