pub mod Patterns
pub mod ListedEncodings
pub mod Rows
pub mod Profiles
