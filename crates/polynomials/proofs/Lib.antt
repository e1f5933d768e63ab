pub mod Multiplies
pub mod Divides
pub mod Partings
