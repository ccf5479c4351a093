pub mod Cells
pub mod Procedures
pub mod Rests
pub mod Contents
pub mod Laws
