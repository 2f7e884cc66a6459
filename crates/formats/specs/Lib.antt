pub mod Variables
pub mod Drafts
pub mod Exponents
pub mod Keys
