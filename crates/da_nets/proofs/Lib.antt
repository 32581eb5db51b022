mod Digits
mod Reading
mod Runs
mod SpellingLemmas
