pub mod Ends
mod PrintLemmas
