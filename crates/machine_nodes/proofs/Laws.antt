pub mod Nodes
pub mod Spans
pub mod Copies
pub mod Bytes
