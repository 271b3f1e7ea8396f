pub mod Parts
pub mod Finish
pub mod Running
