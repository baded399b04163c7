-- What the functions of links to add ask and leave.
pub mod Candidates
pub mod Slicing
pub mod Touching
pub mod Choosing
pub mod Searching
pub mod Deciding
pub mod Answering
