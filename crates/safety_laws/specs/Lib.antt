pub mod Look
pub mod Safe
pub mod Gone
pub mod Calls
