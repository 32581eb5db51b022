pub mod Prepending
pub mod Numbering
pub mod Counting
pub mod Utf8
pub mod TemplateFields
pub mod Steps
