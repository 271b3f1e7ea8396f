pub mod Applying
pub mod Stepping
