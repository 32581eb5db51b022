pub mod Pw
