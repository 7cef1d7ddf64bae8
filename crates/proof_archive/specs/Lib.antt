pub mod Scan
pub mod Archives
pub mod Laws
pub mod Carried
