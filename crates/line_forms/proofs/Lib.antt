pub mod Basics
pub mod WordLaws
pub mod NumberLaws
pub mod NameLaws
pub mod FormLaws
pub mod TokenLaws
pub mod PrintLaws
