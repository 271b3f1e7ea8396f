pub mod Imports
pub mod Examples
