-- Laws of the readers of parts: rows and notes in tables, and what the readers leave.
pub mod Exits
pub mod Stores
pub mod Notes
pub mod Opens
pub mod Leaving
pub mod Renumbering
