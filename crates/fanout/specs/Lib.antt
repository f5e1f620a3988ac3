pub mod Outbox
pub mod Waiting
