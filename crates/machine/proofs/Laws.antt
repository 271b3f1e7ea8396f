pub mod Progress
pub mod Advancing
