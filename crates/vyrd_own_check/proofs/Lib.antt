mod Prelude
pub mod PlaceLaws
pub mod LastLaws
pub mod ReadingFacts
pub mod PieceLaws
pub mod CostLaws
pub mod FedLaws
pub mod EndedLaws
pub mod CheckedLaws
pub mod SpecifiedLaws
pub mod NumberLaws
