pub mod Steps
pub mod GiveUps
