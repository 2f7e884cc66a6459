pub mod Shown
pub mod Faults
pub mod Steps
