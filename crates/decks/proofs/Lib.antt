pub mod Values
pub mod Fields
pub mod Gathering
pub mod Turns
