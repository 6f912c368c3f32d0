pub mod Laying
pub mod Undefs
pub mod Heads
