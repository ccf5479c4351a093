pub mod Growth
pub mod LineSpelling
pub mod Meaning
pub mod Samples
