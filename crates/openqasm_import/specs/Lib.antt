pub mod Answers
pub mod Meaning
pub mod Buffers
