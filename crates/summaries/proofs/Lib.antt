mod Last
mod Equality
