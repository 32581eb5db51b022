pub mod Answered
pub mod Causes
pub mod HandedOut
pub mod Openness
pub mod Stepping
pub mod Turned
