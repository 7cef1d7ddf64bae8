pub mod InMemory
pub mod Spends
pub mod StartLaws
pub mod Watched
pub mod Kept
pub mod Parts
pub mod Added
pub mod Leaves
pub mod Notes
pub mod States
pub mod OnOpening
pub mod LeafBodies
pub mod Unbound
pub mod Behind
pub mod OneMessage
pub mod OneDisk
pub mod SharedHistories
mod Words
