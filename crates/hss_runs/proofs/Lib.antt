mod Identities
mod Openings
mod Leaves
mod Adding
mod Calls
pub mod FaultLaws
pub mod CompleteLaws
mod Words
