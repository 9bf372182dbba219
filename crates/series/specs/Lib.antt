pub mod HandedOn
pub mod Machine
pub mod Series
pub mod Demand3
pub mod StopAndGoOn
pub mod Windows
