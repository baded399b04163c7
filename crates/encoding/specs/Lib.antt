-- A case written as bytes: document 01, "A case, command by command"; document 02, point 8.
pub mod Encoding
