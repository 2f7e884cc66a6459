pub mod Canonical
pub mod Sums
pub mod Products
pub mod Writing
