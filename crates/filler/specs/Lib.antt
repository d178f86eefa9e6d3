pub mod Truths
pub mod TruthLaws
pub mod FillCorrect
