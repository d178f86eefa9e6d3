pub mod Abstraction
pub mod TextsCorrect
