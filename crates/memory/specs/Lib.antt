pub mod Faults
pub mod Memory
