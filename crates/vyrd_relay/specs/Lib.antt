pub mod Lanes
pub mod Knowledge
pub mod Rule
pub mod Ends
pub mod Numbers
