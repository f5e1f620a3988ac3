pub mod Locked
pub mod Taking
