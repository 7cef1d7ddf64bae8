-- What the files beside this one say of the operator: its records, its trees, and what it makes of them.
pub use Rattle.operator_rules.specs.Trees.{opening_in_tree, Forest, tree_at}
unfoldable pub use Rattle.operator_rules.specs.Trees.{forest_of, tree_of}
pub use Rattle.operator_rules.specs.Records.{Note, Offered, Laid, Sealed, spells_transfer, who_is}
unfoldable pub use Rattle.operator_rules.specs.Records.{identity_text as operator_text, note_text, note_in, notes_of}
pub use Rattle.operator_rules.specs.Commands.{forest_in, prove_by, as_bundle, bundle_between, bundle_to, bundle_of, tip_asked}
unfoldable pub use Rattle.operator_rules.specs.Commands.{offer_effect, lay_effect, seal_effect, prove_answer, bundle_answer, absences_answer, openings_of}
