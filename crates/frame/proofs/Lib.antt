pub mod Words
pub mod InRam
