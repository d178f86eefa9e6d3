pub mod Abstraction
pub mod Contexts
pub mod OpenLaws
