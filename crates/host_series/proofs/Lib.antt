pub mod Refused
pub mod HeldAfter
pub mod HostCalls
pub mod HostDemand3
pub mod HostExits
pub mod HostStopAndGoOn
pub mod HostWindows
