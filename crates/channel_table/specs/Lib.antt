pub mod ClientRows
pub mod Looks
pub mod Numbers
pub mod SessionIndex
pub mod Sessions
