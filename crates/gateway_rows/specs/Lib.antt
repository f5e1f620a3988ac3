pub mod BrandedState
pub mod CountedState
pub mod LinkIds
pub mod Looked
pub mod Own
pub mod ToldReaders
