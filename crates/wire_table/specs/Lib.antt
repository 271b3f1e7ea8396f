pub mod Wires
pub mod WireRules
pub mod Table
