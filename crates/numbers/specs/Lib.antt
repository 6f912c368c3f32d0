pub mod Faults
pub mod Integers
pub mod Booleans
pub mod Words
