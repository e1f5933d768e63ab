pub mod Numerals
pub mod Appends
pub mod Decimals
pub mod Texts
pub mod FieldWords
