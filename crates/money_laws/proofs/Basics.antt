-- Numbers, lists, options and truth values, and the lemmas on them, for the files beside this one.
pub use Rattle.std.specs.List.{list_all, AllByRecursion, list_any, flat_map, range_with_len, Contains}
pub use Rattle.std.specs.Prelude.{replicate, length, slice_index_or, is_some, nat_le, is_none}
pub use Rattle.std.specs.Option.{option_map, option_map_or}
pub use Rattle.std.specs.Str.{bytes_eq}
pub use Rattle.std.proofs.Common.{◌≡◌, ℕ, ◌≤◌, ◌==◌, not, true, false, List, [], ◌∷◌, Some, inl, inr, refl, sym, ◌∙◌, subst, arith, rules, zero, suc, ◌+◌, ◌-◌, ◌^◌, ◌<◌, ◌&&◌, Bool, if◌then◌else◌, nat_lt, ◌++◌, None, ap, ◌||◌, cond, filter, ◌⊎◌, ◌≢◌, Option, ◌*◌, map, Ok, find}
pub use Rattle.std.proofs.lemmas.Bool.{eqb-true, eq-eqb, and_parts, not_from_false, true≢false, false≢true, cases_Bool, ltb-true, or_parts, lt-ltb, false_from_ne_true, cases_eq, ne_eqb, or_cases, not-true, leb-true, leb-false, le-leb, and_from, le-ltb, ltb-false, and_right, or_right}
pub use Rattle.std.proofs.lemmas.Grind.{common_steps}
pub use Rattle.std.proofs.lemmas.List.Elements.{All-from_recursion}
pub use Rattle.std.proofs.lemmas.Slice.Eq.{bytes_eq-Decides}
