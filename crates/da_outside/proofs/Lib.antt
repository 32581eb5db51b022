pub mod FileReadLemmas
mod Lines
mod Starts
