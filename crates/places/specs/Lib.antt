pub mod Abstraction
pub mod PlaceLaws
