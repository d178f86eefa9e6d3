pub mod Abstraction
pub mod WalkCorrect
