pub mod Counted
pub mod LedTo
pub mod PutRows
pub mod TakenNumbers
