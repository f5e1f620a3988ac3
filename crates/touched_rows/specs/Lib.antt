pub mod Concern
pub mod Touched
pub mod Touches
