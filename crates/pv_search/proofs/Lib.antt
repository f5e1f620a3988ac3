pub mod AnswerLemmas
pub mod Cutting
pub mod Fitting
pub mod PartAnswers
pub mod ReadBack
pub mod Taking
pub mod Testing
pub mod Writing
