pub mod Steps
pub mod Drops
pub mod Inverse
pub mod Sound
pub mod Complete
pub mod Accepting
pub mod Skips
pub mod Finding
