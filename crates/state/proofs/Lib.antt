pub mod Registers
pub mod Theorems
pub mod Stack
