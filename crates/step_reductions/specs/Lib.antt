pub mod Taking
pub mod Reductions
