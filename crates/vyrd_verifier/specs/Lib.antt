pub mod Judging
pub mod Taken
