pub mod Bytes
pub mod Sinks
pub mod Rooms
pub mod Writers
pub mod Written
pub mod Read
