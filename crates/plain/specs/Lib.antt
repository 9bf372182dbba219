pub mod PlainMachine
pub mod Calls
pub mod EqualBut
