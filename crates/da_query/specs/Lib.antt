pub mod FieldsLeft
pub mod Queries
pub mod QuerySpelling
pub mod AnswerLines
pub mod AnswerSpelling
