-- What the functions of this crate leave: one step, levels by pair, and all steps.
pub mod Stepping
pub mod Marking
pub mod Running
