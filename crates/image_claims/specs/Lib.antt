pub mod ImageMachine
pub mod AsAlone
pub mod WrongIndex
pub mod Replacements
pub mod ImageCalls
pub mod ImageExamples
