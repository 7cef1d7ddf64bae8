pub mod Basics
pub mod HexLaws
pub mod FormLaws
pub mod Matching
pub mod Found
pub mod SoundLaws
pub mod Verifying
