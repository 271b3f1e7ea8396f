pub mod Redexes
pub mod Tests
pub mod Stepping
pub mod Outcomes
