pub mod Lists
pub mod Tables
pub mod Canonical
pub mod Products
