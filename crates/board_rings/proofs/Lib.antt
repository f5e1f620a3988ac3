mod DestOrder
mod AttachmentAnswers
pub mod AttachmentChanges
pub mod AttachmentOrder
pub mod OnTheWay
pub mod Goes
pub mod Histories
pub mod OfAttachments
pub mod OnRun
mod WorkedHistories
