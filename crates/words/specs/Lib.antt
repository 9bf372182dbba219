pub mod Shifts
pub mod Products
pub mod Bitwise
