pub mod EventReading
pub mod PrintedEvents
pub mod RandomReading
pub mod RandomTexts
pub mod ScriptReading
