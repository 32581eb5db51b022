pub mod AskedDatabases
pub mod HitsMade
pub mod LegalSteps
pub mod OpenSteps
pub mod Standing
pub mod TakeSteps
pub mod UsableLemmas
