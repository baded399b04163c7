-- What a rule reads and gives, and what is asked of proposed values and found in them.
pub mod Rules
pub mod Proposals
