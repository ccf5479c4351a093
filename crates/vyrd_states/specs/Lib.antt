pub mod Known
pub mod Looks
pub mod Replies
pub mod Running
pub mod Windows
