pub mod Host
pub mod HostExits
pub mod HostSeries
pub mod HostStopAndGoOn
pub mod HostWindows
