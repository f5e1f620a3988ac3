pub mod Fields
pub mod Framings
pub mod Fronts
pub mod Heads
pub mod Messages
