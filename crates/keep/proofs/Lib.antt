pub mod KeyOrders
pub mod Among
pub mod OneContent
pub mod PlainRows
pub mod PlainChanges
