-- What the demands and document 02's points promise, in the words of their statements, and the samples of both documents.
pub mod Demands
pub mod Samples
pub mod Unfinished
pub mod Profiles
pub mod Parking
pub mod Groups
pub mod Adding
