pub mod Differences
pub mod Integers
pub mod Parts
pub mod Runs
pub mod Tests
