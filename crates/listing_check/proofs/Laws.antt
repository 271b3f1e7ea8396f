pub mod Entries
pub mod Judging
pub mod Wires
pub mod Answering
pub mod Places
