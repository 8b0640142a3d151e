pub mod Padding
pub mod Rebounds
pub mod Texts
