pub mod Joined
pub mod Wholes
