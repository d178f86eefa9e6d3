pub mod Joining
pub mod Calling
