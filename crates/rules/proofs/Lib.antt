pub mod GateTable
pub mod Laws
pub mod Theorems
