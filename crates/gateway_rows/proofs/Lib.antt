pub mod Asked
pub mod Counted
pub mod GivenUp
pub mod OwnStays
pub mod Placed
pub mod Readers
pub mod Sorted
