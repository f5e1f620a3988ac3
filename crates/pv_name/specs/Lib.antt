pub mod Word
pub mod Name
pub mod Host
pub mod Group
