pub mod Lengths
pub mod Registers
