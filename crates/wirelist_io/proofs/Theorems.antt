pub mod Longest
pub mod Examples
pub mod Printed
