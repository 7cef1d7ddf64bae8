pub mod Sizes
pub mod Lists
pub mod Nodes
pub mod Laws
pub mod BlockFacts
pub mod BeginFacts
pub mod ChainFacts
