pub mod Before
mod NoHits
pub mod Replays
