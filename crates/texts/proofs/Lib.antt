pub mod Dealing
pub mod Widths
pub mod Numbering
pub mod Returning
