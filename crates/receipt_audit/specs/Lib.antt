pub mod Promises
pub mod Audit
pub mod Desk
pub mod Laws
