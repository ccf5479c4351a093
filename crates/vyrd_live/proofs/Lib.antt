mod Prelude
pub mod Lanes
pub mod RoomLaws
pub mod FitLaws
pub mod WorkLaws
pub mod Parts
pub mod EndingLaws
pub mod WorkerLists
pub mod FreshWorkers
pub mod SendingLaws
pub mod HistoryLaws
pub mod TurnLaws
pub mod PlayLaws
pub mod BesideLaws
