pub mod Kinds
pub mod Bytes
pub mod Reading
pub mod Exactness
pub mod Skipping
pub mod Scalars
