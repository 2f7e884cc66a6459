pub mod Decks
pub mod Numbers
pub mod Terms
pub mod Reading
pub mod Theorems
