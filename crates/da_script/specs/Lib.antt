pub mod Random
pub mod Events
pub mod EventSpelling
pub mod Replies
pub mod Scripts
