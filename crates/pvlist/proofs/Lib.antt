pub mod ClueLemmas
pub mod FileLemmas
pub mod LineLemmas
pub mod TranslationLemmas
pub mod WordLemmas
pub mod WorkedPatterns
