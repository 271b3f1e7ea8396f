pub mod Redexes
