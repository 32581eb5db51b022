pub mod Comparing
pub mod Effects
pub mod History
pub mod Legal
pub mod Play
pub mod Served
pub mod Steps
