pub mod ConnectionKeys
pub mod Kept
pub mod LatestRows
pub mod Leads
pub mod Searches
