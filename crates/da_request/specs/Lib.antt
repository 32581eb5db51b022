pub mod Attempts
pub mod Requests
