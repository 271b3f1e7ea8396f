pub mod Forests
pub mod Waiting
pub mod Pieces
pub mod Reducts
pub mod Contractions
