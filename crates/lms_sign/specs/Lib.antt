pub mod Types
pub mod OneTime
pub mod Tree
pub mod Valid
pub mod Kept
pub mod Lanes
pub mod Chains
