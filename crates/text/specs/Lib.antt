pub mod Text
pub mod Appending
pub mod Fields
pub mod Written
