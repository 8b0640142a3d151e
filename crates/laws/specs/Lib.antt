pub mod Examples
pub mod RowsByCommand
pub mod Walks
pub mod Late
pub mod Deals
pub mod Still
pub mod Roll
pub mod RollExample
