pub mod Decimals
pub mod Words
pub mod Writing
pub mod Writer
