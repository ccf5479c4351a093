pub mod Watching
pub mod Trails
pub mod Order
pub mod Costs
