pub mod ShortForm
