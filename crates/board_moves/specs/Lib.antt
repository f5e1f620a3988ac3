pub mod Answers
pub mod Held
pub mod Keeping
pub mod Noted
pub mod Rounds
pub mod Share
