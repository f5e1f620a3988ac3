pub mod Aging
pub mod BeforeReads
pub mod Begun
pub mod Looked
pub mod Named
pub mod ReadyStates
pub mod Running
pub mod Ungranted
