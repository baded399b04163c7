-- The laws of levels below a bound, of levels by digits and of justified pairs.
pub mod Lowered
pub mod InDigits
pub mod Justified
