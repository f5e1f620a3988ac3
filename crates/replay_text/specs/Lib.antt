pub mod Words
pub mod Values
pub mod Limits
pub mod Lines
pub mod Output
