pub mod Shares
pub mod Passes
pub mod Steps
pub mod Prefixes
pub mod Merges
pub mod Storing
pub mod Same
pub mod Ends
