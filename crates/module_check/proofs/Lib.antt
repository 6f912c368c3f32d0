mod Facts
mod Steps
mod Loops
mod ModuleFacts
mod Meaning
pub mod Bodies
pub mod Tests
