pub mod Names
pub mod Lines
pub mod Fitting
pub mod Read
