pub mod Rows
pub mod Numbers
pub mod Starts
pub mod Outcomes
pub mod Gcds
pub mod Passes
