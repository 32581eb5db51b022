pub mod EscapeLemmas
pub mod HexDigits
pub mod LineLemmas
pub mod NumberLemmas
pub mod PartLemmas
pub mod SpellingLemmas
pub mod StreamLemmas
