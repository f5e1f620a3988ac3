pub mod Serving
pub mod Sending
pub mod Links
pub mod Memory
pub mod Writing
