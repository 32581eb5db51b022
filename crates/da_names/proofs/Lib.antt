mod Matching
mod FilterWords
