pub mod Standard
pub mod Figures
