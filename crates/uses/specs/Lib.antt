pub mod Answers
pub mod Dividing
pub mod Performing
pub mod Runs
