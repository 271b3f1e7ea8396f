pub mod Taking
pub mod Forms
pub mod Reductions
