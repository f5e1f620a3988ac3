pub mod Numbers
pub mod SearchRows
