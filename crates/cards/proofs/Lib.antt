pub mod Texts
pub mod Falls
pub mod Turning
pub mod Readings
pub mod Signs
