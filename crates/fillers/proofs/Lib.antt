-- The laws of the paths worked out one from the other, of the whole table and of the converse; and the law that users of a case's tables start from.
pub mod Filling
pub mod Emptying
pub mod Making
pub mod Turning
pub mod Prepared
pub mod InTables
