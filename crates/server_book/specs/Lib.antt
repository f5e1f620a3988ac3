pub mod Books
pub mod Names
pub mod Nets
pub mod Runs
pub mod Seats
pub mod Servers
