mod Prelude
pub mod AskerLaws
pub mod CallersSee
pub mod CostLaws
pub mod SeeingLaws
pub mod TrailCounts
pub mod TrailLaws
