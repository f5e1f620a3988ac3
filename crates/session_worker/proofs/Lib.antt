mod Hearing
mod Sending
pub mod Keeping
mod Pieces
pub mod Writings
mod Dropping
