pub mod Image
pub mod Steps
pub mod Journal
pub mod Make
pub mod Life
pub mod Laws
pub mod Inside
pub mod Sound
