pub mod Stepping
pub mod Counting
pub mod Running
pub mod Finishing
