pub mod PrintedLines
pub mod ServiceReading
pub mod SessionSteps
