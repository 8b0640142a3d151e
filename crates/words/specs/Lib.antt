pub mod Items
pub mod Kinds
pub mod OpenLines
pub mod Replies
pub mod Spelling
pub mod Stream
pub mod Words
