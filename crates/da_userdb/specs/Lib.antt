pub mod UserChain
pub mod UserPlaces
pub mod UserCursors
