pub mod Images
pub mod Index
