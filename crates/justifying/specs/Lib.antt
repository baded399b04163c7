-- Levels by pair and by digits, and what is asked and found where 15 is looked for.
pub mod LevelRows
pub mod Digits
pub mod Justifying
