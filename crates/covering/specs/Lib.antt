pub mod Covering
pub mod CoveredCorrect
