pub mod Faults
pub mod Transfers
