pub mod Integers
pub mod Laws
