-- The demands and document 02's points as theorems about the definitions of the entry points, and the samples.
pub mod Demands
pub mod Ranking
pub mod Samples
pub mod Nested
pub mod Totals
pub mod OldCode
pub mod Unfinished
pub mod Profiles
pub mod Parking
pub mod Groups
pub mod Adding
