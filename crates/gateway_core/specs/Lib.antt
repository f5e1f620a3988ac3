pub mod EngineState
pub mod Looks
pub mod ReadyForEvent
