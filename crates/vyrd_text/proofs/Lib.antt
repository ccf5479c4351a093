mod Prelude
pub mod NumberLaws
pub mod PartLaws
pub mod HeaderLaws
pub mod ReaderLaws
pub mod AheadLaws
pub mod StartLaws
pub mod LineSteps
pub mod EntrySteps
pub mod RestSteps
pub mod PieceLaws
pub mod QuickLaws
pub mod ReadLaws
pub mod ViewLaws
pub mod WrittenLaws
pub mod GrowingLaws
