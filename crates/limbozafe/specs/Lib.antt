pub mod Faults
pub mod Kinds
pub mod Lines
pub mod Numerals
pub mod Printing
pub mod Words
