-- The laws of a state at its beginning and of one round.
pub mod Arrays
pub mod Opening
pub mod Worked
pub mod Holding
pub mod Replies
