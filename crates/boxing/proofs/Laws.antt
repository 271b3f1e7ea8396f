pub mod Evaluation
pub mod Values
pub mod Renaming
pub mod Unboxing
pub mod Expansion
pub mod Spots
