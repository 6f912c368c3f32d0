pub mod Grouping
mod Steps
