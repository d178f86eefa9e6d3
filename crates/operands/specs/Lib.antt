pub mod Abstraction
pub mod OperandCorrect
