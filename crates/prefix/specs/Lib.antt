pub mod Prefix
pub mod LargestSuccessor
