pub mod WithoutAccess
