pub mod Choices
pub mod Codes
pub mod Escrow
pub mod Inverse
pub mod Padding
pub mod Ranges
pub mod Stock
