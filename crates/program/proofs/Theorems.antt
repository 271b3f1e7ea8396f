pub mod Examples
pub mod Accepting
pub mod Unique
pub mod Encoding
pub mod Programs
pub mod Parts
