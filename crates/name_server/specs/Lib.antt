pub mod Greeting
pub mod Pieces
pub mod StreamReplies
pub mod Streams
pub mod Tries
