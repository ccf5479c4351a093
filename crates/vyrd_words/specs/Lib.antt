pub mod Costs
pub mod Counts
pub mod Cuts
pub mod Effects
pub mod HasWords
