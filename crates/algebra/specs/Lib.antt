pub mod Polynomials
pub mod Leading
pub mod Tables
pub mod Theorems
