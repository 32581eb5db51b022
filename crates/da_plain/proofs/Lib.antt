pub mod PlainMessages
pub mod LoginMessages
