pub mod ClientReading
pub mod FieldSpelling
pub mod LineSpelling
pub mod MasterReading
pub mod ToldOnce
