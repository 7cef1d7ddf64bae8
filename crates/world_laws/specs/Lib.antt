pub mod Headline
pub mod Legal
pub mod Looked
pub mod LegalLaws
pub mod Bundles
pub mod Invariant
