-- Laws of the commands, of what reading gives, and of the case in a table of rows.
pub mod Formats
pub mod Profiles
pub mod Steps
pub mod Sound
pub mod InRows
pub mod PutRows
pub mod Expansion
pub mod Opening
pub mod Faulted
pub mod Operands
