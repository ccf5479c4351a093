pub mod Cells
pub mod Procedures
pub mod Rests
pub mod Contents
pub mod Room
pub mod Hanging
pub mod Passes
pub mod Laws
