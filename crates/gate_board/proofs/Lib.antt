pub mod PatternsCross
pub mod PartsCross
pub mod StateCrosses
pub mod RingsCross
pub mod GateCrosses
mod Looks
mod Under
