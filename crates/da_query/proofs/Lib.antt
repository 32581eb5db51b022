pub mod AnswerReading
pub mod FieldTexts
pub mod LeftLemmas
pub mod PrintedAgain
pub mod QueryReading
