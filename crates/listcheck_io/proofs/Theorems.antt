pub mod Longest
pub mod Examples
