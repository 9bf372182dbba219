pub mod FitPlaces
pub mod FitRecords
pub mod Kept
pub mod ReadsAtPlace
pub mod Unlisted
pub mod Words
pub mod WordsKept
pub mod Windows
