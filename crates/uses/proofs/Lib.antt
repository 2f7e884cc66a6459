pub mod Returns
pub mod Lists
