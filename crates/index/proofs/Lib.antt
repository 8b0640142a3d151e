pub mod Blocks
pub mod KeyPlaces
pub mod Prelude
pub mod Search
pub mod TakenOut
