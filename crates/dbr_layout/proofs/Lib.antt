pub mod Types
pub mod Elements
pub mod Fitting
pub mod Viewing
pub mod Laying
pub mod Converting
mod WorkedValues
pub mod Written
pub mod ReadingBack
pub mod WritingBack
pub mod Following
pub mod OwnLayouts
