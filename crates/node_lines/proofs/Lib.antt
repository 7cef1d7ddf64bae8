mod Owners
pub mod GrammarLaws
