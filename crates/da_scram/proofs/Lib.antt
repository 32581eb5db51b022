pub mod Commas
pub mod NameReading
pub mod FirstReading
pub mod FinalReading
pub mod OneThing
