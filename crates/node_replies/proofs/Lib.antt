pub mod ByteTexts
pub mod BundleTexts
pub mod WalletEnds
mod Names
