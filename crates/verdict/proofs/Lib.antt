mod Figures
pub mod Each
pub mod Members
pub mod Spans
pub mod Heads
pub mod Sames
pub mod Sound
pub mod SoundModules
pub mod Complete
pub mod Exact
