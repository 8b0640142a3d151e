pub mod BlockList
pub mod InOrder
pub mod Lends
