mod Running
pub mod BadLineLemmas
pub mod RunLemmas
