mod Prelude
pub mod Steps
pub mod GiveUps
pub mod HangingLaws
pub mod Onward
pub mod PassLaws
