pub mod Nodes
pub mod Orders
pub mod Cuts
pub mod Inside
pub mod Boxed
