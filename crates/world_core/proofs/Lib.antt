pub mod WalletRecords
pub mod WalletLines
pub mod RunFacts
pub mod Counts
pub mod LongerRuns
pub mod Takings
pub mod Readings
pub mod Countings
pub mod NameLines
mod Words
