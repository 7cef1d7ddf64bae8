-- Numbers, lists, options and truth values, and the lemmas on them, for the files beside this one.
pub use Rattle.std.specs.Prelude.{slice_get, nat_lt, option_map, option_and_then, unwrap_or, reverse, find, slice_index_or, Result, IfSome, set, nat_le}
pub use Rattle.std.specs.List.{position, position_or_len, list_any, range_with_len, AllByRecursion, concat, All, filter_map, cons_option}
pub use Rattle.std.specs.Option.{option_map_or, option_or}
pub use Rattle.std.specs.Str.{bytes_eq}
pub use Rattle.std.specs.Ordering.{nat_cmp}
pub use Rattle.std.specs.BTreeSet.{insert_key}
pub use Rattle.std.proofs.Common.{◌≡◌, ℕ, ◌&&◌, not, Bool, true, false, if◌then◌else◌, List, Option, Some, inl, inr, refl, sym, ap, ◌∙◌, subst, arith, ◌<◌, length, ◌^◌, ◌||◌, [], ◌∷◌, Ok, rules, zero, suc, ◌+◌, ◌==◌, ◌++◌, map, is_some, ◌⊎◌, ◌≤◌, max, filter, None, ◌-◌, lit<, Err, ◌≢◌, drop, cond, Contains, count_by, flat_map}
pub use Rattle.std.proofs.lemmas.Bool.{and_cases, or_parts, ltb-false, le-leb, ltb-true, and_from, or_left, or_right, eq-eqb, cases_eq, eqb-true, or_cases, cases_lt, and_parts, false≢true, not-true, false_from_ne_true, true≢false, lt-ltb, le-ltb, ne_eqb, and_left, and_right}
pub use Rattle.std.proofs.lemmas.Grind.{common_steps, reverse_onto}
pub use Rattle.std.proofs.lemmas.Option.{slice_get_cases, slice_get_past}
pub use Rattle.std.proofs.lemmas.List.{reverse-append, length-reverse, length-map, map-append, length-take-le}
pub use Rattle.std.proofs.lemmas.List.Folds.{list_any-append, find_at}
pub use Rattle.std.proofs.lemmas.List.Elements.{All-head, All-tail, Contains-append_cases, All-from_recursion}
