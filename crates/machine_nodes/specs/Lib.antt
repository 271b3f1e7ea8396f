pub mod Nodes
pub mod Spans
pub mod Copying
