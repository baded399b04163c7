-- The laws of reading: storing commands in the table of rows, shapes that are not in the case, the walk over the input.
pub mod Stores
pub mod Unknown
pub mod Walking
