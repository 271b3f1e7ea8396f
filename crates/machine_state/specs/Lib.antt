pub mod Memory
pub mod Outcomes
pub mod Buffers
