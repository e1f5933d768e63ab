pub mod Codes
pub mod Coded
pub mod Viewed
pub mod Written
