pub mod FieldList
pub mod Answers
