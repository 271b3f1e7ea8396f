pub mod Places
pub mod Writing
pub mod Longest
pub mod Statements
pub mod Answering
