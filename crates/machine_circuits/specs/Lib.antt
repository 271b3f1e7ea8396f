pub mod Copies
pub mod Renamings
pub mod Tuples
pub mod Applying
pub mod Layout
pub mod Results
