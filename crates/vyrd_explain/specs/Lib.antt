pub mod Verdicts
pub mod Explained
pub mod Explaining
pub mod ExplainerView
