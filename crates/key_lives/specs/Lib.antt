pub mod Signers
pub mod SignerLaws
pub mod Desks
pub mod DeskLaws
pub mod CutLaws
pub mod SignerSample
pub mod Moments
pub mod DeskSample
