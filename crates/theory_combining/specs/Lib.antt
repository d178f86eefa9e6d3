-- Streams read block by block, for the walk over texts
pub mod BlockReaders
pub mod BlockReaderLaws
pub mod RootOperand
-- The ways through code
pub mod EdgeCorrect
-- The call
pub mod CombineCorrect
pub mod Merged
pub mod Entering
pub mod Called
