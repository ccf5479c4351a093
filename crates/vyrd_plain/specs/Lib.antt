pub mod Executions
pub mod Tracking
pub mod Outcomes
pub mod OpenBlocks
pub mod Committed
