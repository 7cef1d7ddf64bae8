pub mod Bundles
pub mod History
pub mod Checking
pub mod Laws
pub mod Inside
