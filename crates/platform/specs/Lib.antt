pub mod Platforms
pub mod Programs
