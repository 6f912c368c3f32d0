pub mod Heads
pub mod Forms
pub mod Prefixes
pub mod Uses
pub mod Soundness
pub mod Grown
