pub mod Theorems
pub mod Successors
