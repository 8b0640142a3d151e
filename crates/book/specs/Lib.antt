pub mod OrderLists
pub mod Model
pub mod Plans
pub mod Views
pub mod PlanAnswers
pub mod inner
