-- A case, its format, and what reading answers: document 01, "A case, command by command" and "Refusals", Reading.
pub mod Case
pub mod Counts
pub mod Format
pub mod References
pub mod Faults
pub mod Refusals
pub mod Parts
pub mod Reading
pub mod Sound
pub mod Rows
pub mod Ruled
