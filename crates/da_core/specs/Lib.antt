pub mod Bridges
pub mod Clock
pub mod Outgoing
