pub mod Gaussian
pub mod Member
pub mod Laws
