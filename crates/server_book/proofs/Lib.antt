pub mod Agreeing
pub mod Kept
pub mod NameLemmas
pub mod NetLemmas
pub mod RunLemmas
pub mod SeatLemmas
