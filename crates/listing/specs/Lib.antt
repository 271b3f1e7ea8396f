pub mod Lengths
pub mod Pieces
pub mod Reading
pub mod Listing
