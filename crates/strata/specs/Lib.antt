-- What ranking asks and leaves, over the tables.
pub mod Ranks
