pub mod Cram
pub mod Example
