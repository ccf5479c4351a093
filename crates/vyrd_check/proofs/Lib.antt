mod Prelude
pub mod WholeFacts
pub mod ReadingFacts
pub mod PieceLaws
pub mod FedLaws
pub mod BuiltInLaws
pub mod CheckedLaws
pub mod CostLaws
