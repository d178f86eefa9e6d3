pub mod Inputs
pub mod TwoInputs
