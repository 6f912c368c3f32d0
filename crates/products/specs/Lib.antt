pub mod Times
pub mod Products
pub mod TimesLaws
pub mod Factors
pub mod Multiplying
pub mod Rules
