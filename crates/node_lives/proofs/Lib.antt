pub mod Quiet
pub mod Taken
mod Lines
pub mod Within
pub mod Stays
pub mod Sessions
pub mod Roles
pub mod Statuses
pub mod Foreign
pub mod Seeds
pub mod Own
mod OwnEach
pub mod Opens
mod RoleKept
mod WalletOrders
mod OwnWallet
pub mod DeskOrders
pub mod OwnRuns
pub mod Begun
pub mod Life
pub mod Cuts
mod Answered
pub mod LeafTexts
mod GivenOut
pub mod Leaves
pub mod CutLaws
pub mod Drives
pub mod SampleLines
pub mod Moments
mod CutRuns
pub mod CutOpenings
mod CutInits
mod Samples
mod CutSample
pub mod Identities
pub mod Written
