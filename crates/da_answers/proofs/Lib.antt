pub mod AnsweredRows
pub mod HitsInTurn
