pub mod WalletOrders
pub mod WalletInside
pub mod WalletLaws
pub mod WatcherLaws
pub mod OperatorLaws
