-- What a case means, in the order of document 01: paths, values, levels and stability, solving, denial, the four operations; then
-- document 02's points: rules inside rules, parked edges, totals by fitting, the old code, unfinished solves, groups that no edge joins, links to add. And
-- what inner functions answer.
pub mod Paths
pub mod Values
pub mod Nested
pub mod Parking
pub mod Levels
pub mod Stability
pub mod Solving
pub mod Groups
pub mod Denial
pub mod Operations
pub mod Answered
pub mod Totals
pub mod OldCode
pub mod Unfinished
pub mod Adding
