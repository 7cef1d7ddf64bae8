pub mod CallLaws
pub mod GrammarLaws
