-- Membership in the rows of a table of words, and what the functions on rows leave.
pub mod Words
