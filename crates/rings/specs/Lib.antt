pub mod Members
pub mod Kinds
pub mod Whole
pub mod Remainders
pub mod Gaussian
pub mod Figures
