mod Prelude
pub mod EntryLaws
pub mod FirstLaws
pub mod GrowingLaws
pub mod MovedLaws
pub mod NameLaws
pub mod PlaceLaws
pub mod PriceLaws
