pub mod Operators
pub mod Named
