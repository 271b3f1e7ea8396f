pub mod Exports
pub mod Examples
