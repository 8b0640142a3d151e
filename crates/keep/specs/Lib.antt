pub mod Content
pub mod TableRows
pub mod Keeping
pub mod Plain
