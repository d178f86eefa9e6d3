pub mod Refused
pub mod LentMemory
pub mod Runs
pub mod NextWords
pub mod SettledWords
pub mod Claims
pub mod Further
pub mod Examples
