pub mod ShowingLaws
