pub mod Rows
pub mod Sources
pub mod Sum
pub mod Places
pub mod Walk
pub mod Box
pub mod Line
