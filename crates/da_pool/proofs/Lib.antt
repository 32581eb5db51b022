mod Entries
mod Queued
mod Steps
