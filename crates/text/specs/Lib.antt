pub mod Words
pub mod Digits
pub mod Text
pub mod Room
