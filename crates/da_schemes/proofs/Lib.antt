pub mod Xor
pub mod Rounds
pub mod Pieces
pub mod Bytes
pub mod Base64
pub mod MadeTexts
pub mod Names
