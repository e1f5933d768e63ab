pub mod Value
pub mod Product
pub mod Lowest
pub mod Unit
