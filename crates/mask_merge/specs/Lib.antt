pub mod Changes
pub mod Counts
pub mod Kept
pub mod Laws
pub mod Merged
