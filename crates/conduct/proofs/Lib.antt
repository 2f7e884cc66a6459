pub mod Steps
pub mod Runs
pub mod Promising
pub mod Settled
