-- What the functions that find a command need and leave.
pub mod Finding
