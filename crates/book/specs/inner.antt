-- What no clause of a public function cites.
pub mod Checking
pub mod InPlace
pub mod KeptWords
pub mod OpenOrders
pub mod PlansSeen
pub mod Rolling
pub mod RowEntries
pub mod RunningNumbers
pub mod StepsSeen
pub mod Sums
pub mod Walk
