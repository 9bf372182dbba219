pub mod Instructions
pub mod Fitness
pub mod AtPlace
