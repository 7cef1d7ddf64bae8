pub mod Commands
pub mod Cuts
pub mod Finding
pub mod Growth
pub mod Index
pub mod Nodes
pub mod Scans
pub mod Strangers
pub mod Views
pub mod Calls
mod Words
