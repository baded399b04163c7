-- Who refers to whom, sets of shapes as words, and the table of links.
pub mod Referring
pub mod Linking
pub mod Reaching
