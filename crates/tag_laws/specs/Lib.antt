pub mod Tags
pub mod Histories
pub mod Calls
pub mod Operators
pub mod Wallets
pub mod Samples
pub mod Worlds
