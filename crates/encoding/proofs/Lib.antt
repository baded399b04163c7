-- Laws of the bytes that read: how many there are, what their refusals are called, and that they say exactly the sound cases.
pub mod Recording
pub mod RefusalNumbers
pub mod Lengths
pub mod Encoding
pub mod Alike
