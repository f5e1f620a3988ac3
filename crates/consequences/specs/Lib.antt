pub mod Giving
pub mod InTurn
pub mod LateReads
pub mod Looks
pub mod Met
