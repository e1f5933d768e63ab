pub mod Places
pub mod Slotted
pub mod LineSays
pub mod Done
pub mod States
pub mod Lent
pub mod Lending
pub mod Operations
