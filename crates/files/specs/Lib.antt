pub mod Files
pub mod Deliveries
pub mod Bounds
pub mod Orders
pub mod Sheets
pub mod Rows
