-- The correct string buffers: their structure, and that each of their procedures does right.
pub mod Guards
pub mod Texts
pub mod Parts
pub mod Wholes
