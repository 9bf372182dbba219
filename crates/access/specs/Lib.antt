pub mod Outcomes
pub mod LoadsAndStores
