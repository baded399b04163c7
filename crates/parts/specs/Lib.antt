-- What the readers of parts need and leave.
pub mod Tables
pub mod Reads
pub mod Expanding
