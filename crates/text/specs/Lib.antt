pub mod Writing
pub mod Text
pub mod Written
pub mod Writer
