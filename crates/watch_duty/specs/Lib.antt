pub mod Duty
pub mod Watches
pub mod Laws
