-- Names that the files beside this one use.
pub use Rattle.std.proofs.Common.{◌==◌, List, position, sym, ap, ◌∙◌, refl, ◌≡◌, ℕ, suc, ◌+◌, ◌<◌, ◌≤◌, ◌||◌, cond, not, Bool, true, false, if◌then◌else◌, [], ◌∷◌, ◌++◌, length, take, drop, slice_set, slice_index_or, Some, None, subst, find, arith, map, zero, ◌-◌}
pub use Rattle.std.proofs.lemmas.Bool.{cases_lt, cases_eq, eq-eqb, ne_eqb, eqb-true, lt-ltb, le-ltb}
pub use Rattle.std.proofs.lemmas.Grind.{common_steps}
pub use Rattle.exit_game.specs.declared.slot.Slot.{Slot}
pub use Rattle.exit_game.specs.Slots.{without_last, with_challenge, AreDistinct, slot_at, without_slot, with_slot_changed, with_answer}
pub use Rattle.exit_game.specs.declared.challenges.Challenge.{Challenge}
pub use Rattle.exit_game.specs.Challenges.{answered_at}
