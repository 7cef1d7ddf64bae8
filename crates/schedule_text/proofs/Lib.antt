mod NamesOfLines
pub mod GrammarLaws
