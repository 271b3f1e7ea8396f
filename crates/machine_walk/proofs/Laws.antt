pub mod Places
pub mod Heads
pub mod Moving
pub mod Functions
pub mod Redexes
