pub mod Laws
pub mod Grows
pub mod Digits
