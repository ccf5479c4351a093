mod Prelude
pub mod BeginningLaws
pub mod SoFarLaws
pub mod LogLasts
pub mod CheckedLaws
pub mod CostLaws
pub mod LineSizes
pub mod LengthFacts
pub mod OwnLengths
pub mod LengthLaws
pub mod Opened
pub mod KeptLaws
