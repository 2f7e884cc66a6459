pub mod Whole
pub mod Remainders
pub mod Gaussian
pub mod Fitting
