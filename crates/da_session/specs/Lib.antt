pub mod Made
pub mod Sessions
pub mod Reading
pub mod Writing
pub mod Ticking
pub mod Bridges
