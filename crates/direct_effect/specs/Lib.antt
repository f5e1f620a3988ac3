pub mod Reaching
pub mod Kept
pub mod Looks
pub mod Overdue
