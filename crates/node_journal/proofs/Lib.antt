pub mod Words
pub mod Roles
pub mod Openings
mod Spelling
pub mod Keeping
mod Adding
mod Courses
mod Untaken
mod Beginning
mod Lasting
mod Asking
