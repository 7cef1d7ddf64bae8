pub mod PromiseTexts
pub mod CheckBreaches
pub mod Breaches
pub mod Convictions
pub mod AuditTests
pub mod Items
pub mod Rooms
pub mod Refusals
pub mod Audits
pub mod Issues
pub mod Given
mod Words
