pub mod Lines
pub mod Registers
