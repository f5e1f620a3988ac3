pub mod Channels
pub mod Demand
pub mod Indexes
pub mod Reads
pub mod SubLists
pub mod Subs
