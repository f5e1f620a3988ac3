pub mod ByNumber
pub mod Numbered
pub mod Removal
pub mod Rising
pub mod WorkedSessions
