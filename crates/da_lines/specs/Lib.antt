pub mod Bridges
pub mod Grants
pub mod Lines
