pub mod State
pub mod ServiceLines
pub mod OwnLines
pub mod Commands
pub mod Table
pub mod Giving
pub mod Sessions
pub mod SessionLaws
