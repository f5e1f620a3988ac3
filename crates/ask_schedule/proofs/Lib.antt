pub mod Found
pub mod Gaps
pub mod Hosts
pub mod Lines
pub mod Looks
pub mod Order
pub mod Retained
