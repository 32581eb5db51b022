pub mod Scheme
pub mod Hmac
pub mod Keyed
pub mod Keys
pub mod Stored
pub mod Made
pub mod Memo
