pub mod Items
pub mod Reading
pub mod Held
pub mod Parts
pub mod Registers
pub mod Stored
