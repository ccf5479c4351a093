mod Prelude
pub mod WriteLaws
pub mod FollowLaws
pub mod KeptWrites
pub mod PlacedLaws
pub mod QuietLaws
pub mod SoundLaws
