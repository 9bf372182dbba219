pub mod Record
pub mod FitRecord
pub mod Validation
