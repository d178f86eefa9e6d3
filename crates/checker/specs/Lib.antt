pub mod CheckCorrect
