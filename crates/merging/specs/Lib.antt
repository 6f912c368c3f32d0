pub mod Operators
pub mod Operations
pub mod Sizing
pub mod Free
pub mod Combining
pub mod Trees
pub mod Merged
pub mod Bundles
