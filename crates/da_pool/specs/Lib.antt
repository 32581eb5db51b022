pub mod Pools
pub mod Queues
