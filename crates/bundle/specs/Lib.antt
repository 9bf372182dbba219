pub mod Successors
pub mod Reader
