pub mod AtOnce
pub mod Laws
pub mod Places
pub mod Plan
pub mod Queue
pub mod Turns
