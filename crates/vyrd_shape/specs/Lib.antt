pub mod Stamps
pub mod Phases
pub mod Holding
pub mod Following
pub mod Costs
