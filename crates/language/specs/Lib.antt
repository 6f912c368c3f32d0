pub mod Syntax
pub mod Encoding
pub mod Sorts
pub mod Typing
pub mod Tables
