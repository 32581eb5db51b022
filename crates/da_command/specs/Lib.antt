pub mod Words
pub mod ServeWords
pub mod Commands
pub mod Statuses
pub mod SettingsFile
pub mod Check
pub mod CommandRuns
