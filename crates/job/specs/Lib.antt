pub mod Between
pub mod Cuts
pub mod Abstraction
pub mod Lining
pub mod Fields
pub mod Parsing
pub mod Streams
pub mod ParsingCorrect
