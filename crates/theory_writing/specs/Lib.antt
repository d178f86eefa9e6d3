-- Definitions, in document 01's order
pub mod UniqueTable
pub mod Rules
pub mod Texts
pub mod Run
pub mod Calls
pub mod Join
pub mod JoinExample
pub mod PaperCases
pub mod Examples
-- The table, the queue and the rules
pub mod ConstantPart
pub mod Storing
pub mod Steps
pub mod Normal
pub mod Queue
pub mod Stamps
-- The text of a run: what is released, stays and grows
pub mod Release
pub mod Stable
pub mod Grows
pub mod Output
pub mod Decimal
-- What a text means
pub mod Meaning
pub mod Rewalk
pub mod Faithful
-- Walks over any number of inputs, and walks that keep no text
pub mod Shape
pub mod Flow
pub mod Online
pub mod OnlineRuns
pub mod CallLaws
-- The queue as code holds it
pub mod Links
pub mod Inputs
