-- The laws of sets of shapes as words, of the shapes in the rows of a case, of the table of links, and of sets closed under references.
pub mod ShapeSets
pub mod Shapes
pub mod Linking
pub mod Following
