pub mod HostCalls
pub mod HostDemand3
pub mod HostExits
pub mod HostStopAndGoOn
pub mod HostWindows
pub mod HostImages
pub mod HostAsAlone
