pub mod Outcomes
pub mod Operations
pub mod Evaluation
pub mod Runs
pub mod Laws
pub mod Figures
