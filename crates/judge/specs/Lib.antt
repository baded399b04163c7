-- The equations of solving's and ranking's entry points, and what their inner functions ask and leave.
pub mod Equations
pub mod Solved
pub mod Checked
