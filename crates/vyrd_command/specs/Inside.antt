pub mod Accounts
pub mod BatchCosts
pub mod Counts
