pub mod KeyLaws
pub mod NameLaws
pub mod QueryLaws
pub mod RepeatLaws
pub mod StandingLaws
