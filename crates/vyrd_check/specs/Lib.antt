pub mod LogReadings
pub mod Checking
pub mod Costs
pub mod Owed
