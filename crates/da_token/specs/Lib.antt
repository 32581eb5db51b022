pub mod Json
pub mod Token
pub mod Message
pub mod OauthBearer
pub mod Reading
pub mod Example
