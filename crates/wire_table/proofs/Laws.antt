pub mod Finding
pub mod Scans
pub mod Table
