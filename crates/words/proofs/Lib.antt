pub mod Integers
pub mod Shifts
