-- The sets of nodes that a case's table holds, the tables of a case, and what the functions that make them need and leave.
pub mod NodeSets
pub mod Converse
pub mod CaseTables
pub mod Clearing
pub mod Filling
