-- The laws of what a rule reads and gives, of passes over pairs, of supported pairs and of proposed values.
pub mod RulesThere
pub mod Holding
pub mod Passing
pub mod Supported
pub mod ValueFaults
