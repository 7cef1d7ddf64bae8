pub mod Words
pub mod Messages
pub mod Form
pub mod KindRecords
pub mod Binding
pub mod Lives
pub mod Adding
