pub mod DefaultSettings
pub mod SettingsRanges
