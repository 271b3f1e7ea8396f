pub mod Cells
pub mod Compare
pub mod NewCell
pub mod Rules
pub mod Load
pub mod GateCells
pub mod Write
