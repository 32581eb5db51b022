pub mod Reading
pub mod Parts
pub mod Choices
pub mod Mechanisms
pub mod Databases
pub mod Servers
pub mod SettingsText
