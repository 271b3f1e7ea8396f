pub mod Trees
pub mod Holes
pub mod States
pub mod Forms
pub mod Meaning
pub mod Walks
