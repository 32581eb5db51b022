pub mod Bridges
pub mod Calls
pub mod Ends
pub mod Terms
