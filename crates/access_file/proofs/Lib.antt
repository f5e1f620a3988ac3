pub mod FileLemmas
pub mod GrantLemmas
pub mod HostLemmas
pub mod NamedLemmas
pub mod ReadingLemmas
pub mod WithoutNames
pub mod WorkedFiles
pub mod WriterLemmas
