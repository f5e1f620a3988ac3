pub mod Rings
pub mod Told
pub mod Attachments
pub mod OnTheWay
pub mod Board
pub mod Calls
pub mod History
