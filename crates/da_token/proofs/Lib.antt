pub mod Options
pub mod TokenReading
pub mod PairReading
pub mod MessageReading
pub mod OneThing
