pub mod Patterns
pub mod Lines
pub mod Classes
