pub mod Lines
pub mod Least
pub mod LinesAt
pub mod Spaces
