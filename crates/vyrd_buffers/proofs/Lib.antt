pub mod Steps
pub mod GiveUps
pub mod ActsLeft
