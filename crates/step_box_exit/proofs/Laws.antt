pub mod Closing
pub mod Exit
