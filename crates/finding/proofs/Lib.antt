-- The laws of finding a command: the shapes that it names, noted, and what is found.
pub mod Notes
pub mod Findings
