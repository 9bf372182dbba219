pub mod StoredForm
