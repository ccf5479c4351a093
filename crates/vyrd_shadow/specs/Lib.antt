pub mod Blocks
pub mod Following
pub mod Costs
