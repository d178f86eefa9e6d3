-- The writer as code has it: on lists of cells and bytes
pub mod Cells
pub mod Recycling
pub mod RecordLaws
pub mod Pending
pub mod Engine
-- The unique table and its queue in records
pub mod Lanes
pub mod BucketLinks
pub mod Buckets
pub mod Freed
pub mod QueueCells
pub mod Keeping
pub mod Finding
pub mod Releasing
pub mod Placing
pub mod RecyclingCorrect
-- The text that waits and goes out
pub mod PendingLaws
pub mod PendingCorrect
pub mod Blocks
-- The engine sends what the walk sends
pub mod EngineCorrect
pub mod Leading
pub mod Meeting
pub mod Again
pub mod Walking
pub mod Streaming
-- The call
pub mod WriteCorrect
