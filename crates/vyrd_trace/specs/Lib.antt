pub mod Lanes
pub mod Records
pub mod Rule
pub mod Steps
pub mod Hands
pub mod Closing
