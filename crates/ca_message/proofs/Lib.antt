pub mod Filled
pub mod NoValue
pub mod NulEnded
pub mod ReadBack
pub mod WrittenBack
