pub mod Services
