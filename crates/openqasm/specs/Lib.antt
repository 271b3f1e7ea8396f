pub mod Layout
pub mod Lines
