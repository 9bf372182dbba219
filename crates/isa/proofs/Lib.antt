pub mod Fields
pub mod Counting
pub mod Theorems
pub mod Profiles
