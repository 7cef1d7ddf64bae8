pub mod Endings
pub mod Faults
pub mod Outputs
pub mod Statuses
pub mod Texts
