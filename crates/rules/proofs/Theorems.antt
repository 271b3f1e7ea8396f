pub mod Counting
pub mod Runs
pub mod Cases
pub mod Deterministic
pub mod Inferring
pub mod Safety
