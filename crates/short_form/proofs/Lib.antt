pub mod Numbers
pub mod Ranges
pub mod Decisions
pub mod Lengths
pub mod Theorems
