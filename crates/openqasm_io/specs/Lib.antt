pub mod Printing
pub mod Answered
