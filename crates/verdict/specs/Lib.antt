pub mod Outcomes
pub mod Kinds
pub mod Bodies
pub mod Judging
pub mod Expressions
pub mod Modules
pub mod Exactness
