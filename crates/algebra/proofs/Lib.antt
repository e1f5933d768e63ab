pub mod Divide
pub mod UnitDivide
pub mod Quotient
pub mod Divided
pub mod UnitDivided
pub mod PolyRing
pub mod Monic
pub mod Residue
