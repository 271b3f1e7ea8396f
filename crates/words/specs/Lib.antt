pub mod Words
pub mod Numbers
pub mod Regions
pub mod Quadwords
pub mod Found
