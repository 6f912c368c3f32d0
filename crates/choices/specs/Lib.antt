pub mod Tallies
pub mod Extremes
pub mod Truths
pub mod Highest
pub mod Choosing
pub mod Lowest
pub mod Gathering
