pub mod TwoSums
pub mod SidesLaws
