pub mod Laws
pub mod Integers
pub mod Theorems
