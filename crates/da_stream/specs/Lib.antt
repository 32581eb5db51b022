pub mod Fill
pub mod Gather
pub mod Output
pub mod LineRuns
pub mod BadLines
