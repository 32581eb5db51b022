pub mod Names
pub mod Filters
pub mod Templates
pub mod Stars
