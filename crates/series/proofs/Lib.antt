pub mod Keeps
pub mod Theorems
pub mod StopAndGoOn
pub mod Windows
