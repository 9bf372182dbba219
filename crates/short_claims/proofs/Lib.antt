pub mod ShortForms
pub mod Examples
