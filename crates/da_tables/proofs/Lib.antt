pub mod Cases
pub mod RowChanges
pub mod Rows
