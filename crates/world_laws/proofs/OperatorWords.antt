-- What the files beside this one say of the operator: its records, its trees, and what it makes of them.
pub use Rattle.operator_rules.specs.Records.{Note, Offered, Laid, Sealed, note_in, operator_kinds, Identity, identity_text, identity_in, note_text}
unfoldable pub use Rattle.operator_rules.specs.Records.{notes_of, who_is}
pub use Rattle.operator_rules.specs.Trees.{tree_at, commits, Forest, after_note}
unfoldable pub use Rattle.operator_rules.specs.Trees.{forest_of, tree_of}
pub use Rattle.operator_rules.specs.Walk.{start_of, moved_by, Place, present, Place as Found}
unfoldable pub use Rattle.operator_rules.specs.Walk.{place_at}
pub use Rattle.operator_rules.specs.Commands.{bundle_of, as_bundle, bundle_to, tip_asked, forest_in, offer_at, offer_of, prove_answer, absences_answer}
unfoldable pub use Rattle.operator_rules.specs.Commands.{bundle_answer, offer_effect, seal_effect}
pub use Rattle.operator_rules.specs.Acts.{Act, times_committed, times_sealed, AreDistinct, Called, Kept, sealed_in, IsInTime, IsHonestNote, IsHonestCall}
unfoldable pub use Rattle.operator_rules.specs.Acts.{log_of, kept_notes, IsHonest}
pub use Rattle.operator_rules.proofs.Trees.{root_at-deposit, sealed-tree, root_at-le, root_at-new, tree_of-grow, count-push, one_if}
