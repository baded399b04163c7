-- The laws of the rows of a set of shapes, one by one, of levels in bytes, of one step, and of the steps of C(X).
pub mod Rows
pub mod Bytes
pub mod Taking
pub mod Staging
