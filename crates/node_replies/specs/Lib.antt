pub mod Roles
pub mod Causes
pub mod Texts
pub mod Orders
pub mod Given
