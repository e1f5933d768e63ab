pub mod Number
pub mod Word
