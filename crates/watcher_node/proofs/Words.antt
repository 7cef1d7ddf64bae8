-- Names that the proofs of this crate share.
pub use Rattle.std.proofs.Common.{◌≡◌, ◌≢◌, ℕ, List, [], ◌∷◌, refl, ◌∙◌, ap, arith, ◌<◌, ◌^◌, Some, ◌+◌, ◌||◌, Bool, length, take, get_or, map, filter, reverse, Option, None, sym, ◌==◌, ◌&&◌, not, true, false, cond, nat_lt, ◌++◌, is_some, inl, inr}
pub use Rattle.std.proofs.lemmas.Bool.{cases_Bool, or_parts}
pub use Rattle.std.proofs.lemmas.Grind.{common_steps}
pub use Rattle.std.specs.List.{flat_map, list_any, filter_map, cons_option, AllByRecursion}
pub use Rattle.std.specs.Map.{values_of, keys_of, lookup, remove_entry}
pub use Rattle.std.specs.Option.{option_map}
pub use Rattle.coin_history.specs.declared.bundle.Bundle.{Bundle}
pub use Rattle.node_rules.specs.KeptCoins.{kept_coin_of, due_for_coin, IsShown}
pub use Rattle.node_rules.specs.Watcher.{guards_in, due_for_kept, Guarded, Released, guarded, Note, is_of, with_guard, WatcherIdentity, identity_in, watcher_kinds}
unfoldable pub use Rattle.node_rules.specs.Watcher.{who_is, notes_of, guards_of, watch_answer, note_text, note_in}
pub use Rattle.node_rules.specs.declared.kept_coin.KeptCoin.{KeptCoin}
pub use Rattle.watcher_node.specs.Inside.{watched_in, AreKeyed, change_of, is_watched_at, with_watched, changed, changed_by, comes_before, by_place, keyed, IsKept}
