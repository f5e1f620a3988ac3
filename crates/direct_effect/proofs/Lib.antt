pub mod Accepted
pub mod Concerned
pub mod Described
pub mod Failing
pub mod FixedHost
pub mod GivenUp
pub mod Longer
