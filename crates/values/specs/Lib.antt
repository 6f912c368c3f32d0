pub mod Values
pub mod Trees
pub mod Rows
pub mod Tables
pub mod Encodings
pub mod Refusals
