pub mod Abstraction
pub mod KeyCorrect
