pub mod DecodedMessages
pub mod ValidDatabases
