pub mod Calls
pub mod Formulas
pub mod Uses
