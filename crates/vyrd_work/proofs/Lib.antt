mod Prelude
pub mod BuiltIn
pub mod ItemLaws
pub mod FirstLaws
pub mod WalkLaws
pub mod LimitLaws
pub mod TextLaws
pub mod WrittenLaws
pub mod GeneratedLaws
pub mod Opened
pub mod ShortLines
pub mod ScriptLaws
pub mod SoundScripts
pub mod SettledLaws
