pub mod UserWalks
pub mod UserStandings
