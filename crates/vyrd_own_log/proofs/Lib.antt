mod Prelude
pub mod NameLaws
pub mod EntryLaws
pub mod QuickLaws
pub mod HeaderLaws
pub mod StepLaws
pub mod CallableLaws
pub mod LongLaws
pub mod RestLaws
pub mod SteadyLaws
pub mod ReaderLaws
pub mod ReadLaws
pub mod FrontLaws
pub mod CountLaws
pub mod FollowLaws
pub mod GrownLaws
