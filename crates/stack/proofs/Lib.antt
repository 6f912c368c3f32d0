pub mod Fronts
pub mod Undefs
