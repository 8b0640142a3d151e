-- What no clause of a public function cites.
pub mod FieldRows
pub mod Shares
pub mod ToldLedgers
