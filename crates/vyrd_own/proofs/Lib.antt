mod Prelude
pub mod NodeLaws
pub mod OrderLaws
pub mod StepLaws
pub mod ChangeLaws
pub mod MarkLaws
pub mod SetLaws
pub mod ApartLaws
pub mod LookedLaws
pub mod PriceLaws
pub mod QueueLaws
pub mod ReadLaws
