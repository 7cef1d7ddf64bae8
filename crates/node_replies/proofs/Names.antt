-- Names that the proofs of this crate share.
pub use Rattle.std.proofs.Common.{◌≡◌, ℕ, zero, suc, ◌+◌, ◌-◌, ◌*◌, ◌<◌, ◌%◌, ◌/◌, true, false, if◌then◌else◌, List, [], ◌∷◌, ◌++◌, length, Option, Some, None, subst, arith, lit<, map, Ok, Bool, Err, refl, nat_lt}
pub use Rattle.std.proofs.lemmas.Grind.{common_steps}
pub use Rattle.std.specs.Prelude.{nat_le, slice_index, take, drop, replicate, Result}
pub use Rattle.coin_history.specs.Bundles.{item_text, length_text, bundle_in}
unfoldable pub use Rattle.coin_history.specs.Bundles.{bundle_text}
pub use Rattle.coin_history.specs.declared.bundle.Bundle.{Bundle}
pub use Rattle.node_rules.specs.Kept.{chain_of, kept_of, links_handed, standing_block}
pub use Rattle.plasma_tx.specs.Shown.{tests_by, Rules}
pub use Rattle.plasma_tx.specs.Spelling.{AreBytes, number_text, mark_of, last_text}
unfoldable pub use Rattle.plasma_tx.specs.Spelling.{owner_text, body_text}
pub use Rattle.plasma_tx.specs.declared.call.RootCall.{RootCall}
pub use Rattle.plasma_tx.specs.declared.links.Links.{Links}
pub use Rattle.plasma_tx.specs.declared.owner.Owner.{Owner}
