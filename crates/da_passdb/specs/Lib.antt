pub mod Outcomes
pub mod LoginChain
pub mod Places
pub mod Cursors
