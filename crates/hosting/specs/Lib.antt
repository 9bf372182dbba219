pub mod Crossed
pub mod HostRuns
