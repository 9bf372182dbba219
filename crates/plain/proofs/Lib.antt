pub mod Theorems
pub mod Runs
pub mod GoingOn
pub mod Alike
pub mod Calls
