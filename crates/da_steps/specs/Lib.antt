pub mod Connections
pub mod Standing
