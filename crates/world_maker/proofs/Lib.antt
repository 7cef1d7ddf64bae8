pub mod MadeLines
pub mod TextLines
pub mod People
pub mod FirstRun
pub mod WholeRun
