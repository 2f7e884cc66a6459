pub mod Residues
pub mod Laws
pub mod Table
