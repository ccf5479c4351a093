pub mod Beginnings
pub mod Costs
pub mod Checking
pub mod Owed
pub mod CheckerView
pub mod Worked
