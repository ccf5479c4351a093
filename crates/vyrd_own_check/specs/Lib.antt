pub mod LogReadings
pub mod Numbers
pub mod Costs
pub mod Checking
pub mod Owed
pub mod KeptView
pub mod CheckerView
