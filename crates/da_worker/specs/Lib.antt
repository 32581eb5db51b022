pub mod Passwd
pub mod AnsweredQueries
pub mod Answering
pub mod Run
pub mod Statuses
