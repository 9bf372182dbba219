pub mod Sums
pub mod Flags
pub mod Conditions
