pub mod Shares
pub mod Areas
pub mod Merging
