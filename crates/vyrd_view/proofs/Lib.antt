mod Prelude
pub mod DecodedLaws
pub mod ChainLaws
pub mod ApartLaws
pub mod PairLaws
pub mod PlacedLaws
pub mod NodeLaws
pub mod WalkLaws
pub mod TreePairLaws
pub mod ShowingTree
pub mod CurrentLaws
pub mod DifferingLaws
pub mod PriceLaws
pub mod ReadyLaws
pub mod SidedLaws
pub mod SummedLaws
pub mod RoomLaws
pub mod OutcomeLaws
