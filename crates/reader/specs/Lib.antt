-- What the functions that read need and leave.
pub mod Storing
pub mod Parsing
