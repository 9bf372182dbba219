pub mod ShortStoring
