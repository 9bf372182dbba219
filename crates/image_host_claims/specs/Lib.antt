pub mod HostImageRuns
pub mod HostImages
