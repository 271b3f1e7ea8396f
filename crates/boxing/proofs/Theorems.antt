pub mod Places
pub mod Types
pub mod Boxing
pub mod Examples
