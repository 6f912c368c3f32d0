pub mod Ranking
pub mod Comparing
