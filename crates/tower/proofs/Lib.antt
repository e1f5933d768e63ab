pub mod Laws
pub mod Rows
pub mod Moduli
pub mod Lengths
pub mod Working
pub mod Puts
