pub mod Lengths
pub mod Pieces
pub mod Bytes
pub mod ReadBack
pub mod Decoding
