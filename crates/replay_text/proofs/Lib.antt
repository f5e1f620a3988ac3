pub mod OutputLemmas
mod WordsLemmas
