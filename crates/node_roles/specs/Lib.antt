pub mod Notes
pub mod Parts
pub mod Nodes
pub mod Roles
