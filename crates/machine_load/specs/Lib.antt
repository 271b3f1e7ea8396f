pub mod Trees
pub mod Start
