pub mod Plain
pub mod Login
