mod Prelude
pub mod GrowthLaws
pub mod TextLaws
pub mod WholeLaws
pub mod SoundLaws
pub mod LastLaws
pub mod PieceLaws
pub mod LineLaws
