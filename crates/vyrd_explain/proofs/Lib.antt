pub mod SettledLaws
pub mod TakenLaws
pub mod PositionLaws
pub mod Opened
pub mod LastLaws
