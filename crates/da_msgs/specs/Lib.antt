pub mod Lines
pub mod ClientMessages
pub mod ClientSpelling
pub mod MasterMessages
pub mod MasterSpelling
pub mod Replies
pub mod ToldCodes
