pub mod Bonds
pub mod First
pub mod Reserve
pub mod Keepers
pub mod MoneyLaws
pub mod Samples
pub mod Worked
