pub mod Endings
pub mod Disks
pub mod Sessions
pub mod Runs
pub mod Operators
pub mod Inits
pub mod Prompt
pub mod Complete
