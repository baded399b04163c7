-- The laws of two passes for one and of the answer.
pub mod Checked
pub mod Answered
