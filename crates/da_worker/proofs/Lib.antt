pub mod AnsweredLemmas
pub mod AnsweredLines
pub mod Complete
mod PieceLemmas
