pub mod Asking
pub mod Bridges
pub mod Deaths
pub mod Exchanges
pub mod Working
