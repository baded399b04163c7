-- The laws of fitness: refusals 1 to 7, 20 and 22 by their tests.
pub mod Arms
pub mod Judging
pub mod Laid
pub mod Headings
