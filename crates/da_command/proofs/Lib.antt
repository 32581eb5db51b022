pub mod Along
pub mod SettingsFileLemmas
pub mod CommandRunLemmas
mod CheckLemmas
mod ServeWordLemmas
