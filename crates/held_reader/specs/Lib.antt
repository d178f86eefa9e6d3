pub mod Abstraction
pub mod Held
pub mod HeldExamples
pub mod HeldLaws
