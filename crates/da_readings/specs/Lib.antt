pub mod ListReadings
pub mod RowReadings
