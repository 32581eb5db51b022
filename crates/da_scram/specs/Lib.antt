pub mod Messages
pub mod Scram
pub mod Reading
pub mod Cuts
pub mod Example
