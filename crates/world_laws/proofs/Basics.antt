-- Numbers, lists, options and truth values, and the lemmas on them, for the files beside this one.
pub use Rattle.std.specs.List.{list_any, All, flat_map, Contains, AllByRecursion, list_all, cons_option, range_with_len, filter_map, slice_range, position, position_or_len}
pub use Rattle.std.specs.Prelude.{Result, IfSome, unwrap_or, is_some, nat_eq, nat_lt, is_none, slice_index_or, nat_le, reverse, replicate}
pub use Rattle.std.specs.Option.{option_eq, option_and_then, option_map_or, option_map, option_or}
pub use Rattle.std.specs.Str.{bytes_eq}
pub use Rattle.std.specs.Result.{result_ok}
pub use Rattle.std.proofs.Common.{◌≡◌, ◌⊎◌, ℕ, ◌<◌, ◌≤◌, ◌==◌, ◌&&◌, ◌||◌, Bool, true, false, if◌then◌else◌, List, [], ◌∷◌, length, Some, inl, inr, refl, sym, ap, ◌∙◌, arith, rules, subst, ◌^◌, ◌++◌, Option, None, Ok, ◌≢◌, find, not, ◌+◌, filter, zero, suc, slice_get, Err, map, lit<, ◌-◌, set, ◌*◌, drop, length-drop, is_ok, append-nil, cond, take}
pub use Rattle.std.proofs.lemmas.Bool.{cases_Bool, cases_eq, eq-eqb, eqb-true, ne_eqb, leb-true, or_from, or_parts, true≢false, false≢true, and_parts, and_from, or_cases, or_left, or_right, not-true, not_from_false, false_from_ne_true, and_cases, lt-ltb, le-ltb, lt-leb, cases_lt, ltb-false, and_right, not-false, le-leb, ltb-true, cases_order, not_from_true}
pub use Rattle.std.proofs.lemmas.Grind.{common_steps}
pub use Rattle.std.proofs.lemmas.List.Elements.{All-nil, All-cons, All-contains, Contains-append_left, recursion_from_All, All-push, All-head, All-tail, filter_map-append}
pub use Rattle.std.proofs.lemmas.Slice.Eq.{bytes_eq-Decides}
pub use Rattle.std.proofs.lemmas.List.Folds.{list_any-append, find_at}
pub use Rattle.std.proofs.Math.Nat.{le_refl}
pub use Rattle.std.proofs.lemmas.Option.{slice_get_past, slice_get_within, slice_get-map}
pub use Rattle.std.proofs.lemmas.List.{reverse-append, length-reverse, length-take-le, length-map, drop_all, length-set, length_push}
pub use Rattle.world_laws.proofs.Lists.{some_same, none_some, any-some, find-has, and-seen, append-assoc, has-kept, any-none, has-in-flat_map, none-any, exit-named, all-from, found-has, challenge-has, all_answered-from, passes-has, got-has, and-off, any-either, all-changed, all-answered}
