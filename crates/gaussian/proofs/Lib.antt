pub mod Words
pub mod Norm
