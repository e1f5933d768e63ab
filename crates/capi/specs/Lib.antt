pub mod Codes
pub mod NumberCodes
pub mod SequenceCodes
pub mod ViewCodes
