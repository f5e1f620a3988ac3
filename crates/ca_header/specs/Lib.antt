pub mod Frames
pub mod Framing
pub mod Header
pub mod Intake
pub mod Reading
pub mod Spelling
