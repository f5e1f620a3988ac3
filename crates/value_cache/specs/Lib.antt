pub mod Held
pub mod Message
pub mod Kept
pub mod Encodings
pub mod Laws
