pub mod Bridges
pub mod Connections
pub mod Hits
pub mod Queries
pub mod RecordedAnswers
pub mod Tables
