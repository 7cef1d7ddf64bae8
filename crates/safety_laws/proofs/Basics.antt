-- Numbers, lists, options and truth values, and the lemmas on them, for the files beside this one.
pub use Rattle.std.specs.Option.{option_map, option_map_or, option_or, option_and_then}
pub use Rattle.std.specs.Prelude.{is_none, is_some, nat_lt, unwrap_or}
pub use Rattle.std.specs.List.{Contains, sum_by, list_any, flat_map, AllByRecursion}
pub use Rattle.std.proofs.Common.{◌-◌, ◌≡◌, ◌⊎◌, ℕ, ◌+◌, ◌<◌, ◌≤◌, ◌==◌, List, [], ◌∷◌, map, Option, Some, None, inl, inr, refl, sym, ap, ◌∙◌, subst, arith, find, filter, rules, not, Bool, true, false, if◌then◌else◌, ◌++◌, ◌≢◌, ◌&&◌, ◌||◌}
pub use Rattle.std.proofs.lemmas.Bool.{cases_Bool, cases_eq, ne_eqb, eq-eqb, eqb-true, and_from, true≢false, not_from_false, le-ltb, and_right, or_left, or_right, not_from_true, not-true, and_parts, false≢true, false_from_ne_true, leb-true, or_cases, or_parts, or_from, ltb-false, ltb-true}
pub use Rattle.std.proofs.lemmas.Grind.{common_steps}
pub use Rattle.std.proofs.Math.Nat.{le_refl}
