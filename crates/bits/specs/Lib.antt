pub mod Fields
pub mod Integers
