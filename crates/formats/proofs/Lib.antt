pub mod Walks
pub mod Adding
pub mod Keys
pub mod Turns
pub mod Lists
pub mod Places
pub mod Arrays
