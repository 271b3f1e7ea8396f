pub mod Places
pub mod Examples
pub mod Agreement
pub mod Checked
