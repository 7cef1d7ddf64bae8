pub mod WalletOutcomes
pub mod WalletEffects
pub mod WalletOrderLaws
pub mod WatcherOrders
pub mod WatcherOrderLaws
pub mod OperatorOrders
pub mod OperatorOrderLaws
mod Words
