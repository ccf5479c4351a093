pub mod TextLaws
pub mod Opened
