pub mod DecideCorrect
