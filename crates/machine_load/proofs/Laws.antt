pub mod Trees
pub mod Values
pub mod Start
pub mod Writing
pub mod Loading
