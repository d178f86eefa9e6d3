-- The walk over stored nodes
pub mod Applying
pub mod ApplyLaws
-- What is remembered
pub mod Memo
pub mod Sitting
pub mod MemoLaws
pub mod Noting
pub mod Recalling
pub mod RecallLaws
pub mod MemoCorrect
pub mod RecallCorrect
pub mod RecallExamples
-- The walk over texts
pub mod Operands
pub mod OperandLaws
pub mod Carrying
pub mod Seating
pub mod CarryLaws
-- The whole run
pub mod Finishing
pub mod FinishLaws
pub mod Merging
pub mod MergeLaws
pub mod TextCorrect
pub mod CarryCorrect
