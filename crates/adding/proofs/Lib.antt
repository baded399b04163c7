-- The laws of links to add: of candidates, of the shapes that are left out, of the paths that candidates touch.
pub mod Listed
pub mod Sliced
pub mod Spared
pub mod Chosen
pub mod Keyed
pub mod Verdicts
pub mod Starting
pub mod Slices
pub mod Parsed
pub mod Answers
