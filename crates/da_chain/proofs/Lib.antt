pub mod Expanded
pub mod Given
pub mod Numbers
