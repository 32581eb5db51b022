pub mod EntryParts
pub mod FewRows
pub mod RequestParts
