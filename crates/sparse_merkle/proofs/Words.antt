-- Names that many files beside this one use: lists and numbers, trees and their proofs.
pub use Rattle.std.proofs.Common.{◌≡◌, ◌≢◌, ℕ, true, false, not, List, [], slice_index_or, sym, ap, ◌∙◌, arith, rules, ◌<◌, ◌+◌, ◌-◌, suc, ◌∷◌, ◌++◌, length, drop, slice_set, refl, append_assoc, append-nil, length-set, nat_lt, nat_le, inl, inr, zero, ◌*◌, ◌%◌, ◌^◌, ◌≤◌, if◌then◌else◌, Result, Ok, Err, IfOk, get_or, map, below_more, get_or-set_other, get_or-set_same, Bool, take, ◌==◌, Some, None, ◌/◌, OnOk, OnErr, Option}
pub use Rattle.std.specs.List.{AllPairs, All, filter, range_with_len, Contains, find, insert, remove, concat}
pub use Rattle.std.specs.List.Sorted.{IsNonDecreasingBy, IsPartitionPoint, IsPartitionedBy}
pub use Rattle.std.proofs.lemmas.Bool.{both_ways, not-true, not-false, cases_lt, cases_Bool, and_parts, eq-eqb, eqb-true, eqb-false, ne_eqb, ltb-true, ltb-false, lt-ltb, le-ltb, and_from, leb-true, leb-false, not_from_true, not_from_false, and_left, and_right, le-leb}
pub use Rattle.std.proofs.lemmas.List.Elements.{All-append, All-filter, All-map, All-nil, filter-append, All-from_get_or, filter_passes, All-head, All-tail, All-cons, All-take}
pub use Rattle.std.proofs.lemmas.List.{drop-set, drop_all, map-append, length-append, get_or_append_left, append_cancel_left, take_at, drop_at, length-take, length-drop, get_or-take, get_or-drop, get_or-append_right, take_rest, length_push, get_or_push, drop_more, take-append-drop, nil_from_length, set_split, take_all, length-take-le, get_or_past, drop-drop}
pub use Rattle.std.proofs.lemmas.Grind.{common_steps}
pub use Rattle.std.specs.Str.{bytes_eq}
pub use Rattle.std.proofs.lemmas.List.FromFn.{get_or-map-range_with_len, get_or-range_with_len, length-range_with_len, length-map-range_with_len, fill_by_all}
pub use Rattle.std.proofs.lemmas.Slice.Eq.{bytes_eq-Decides}
pub use Rattle.std.specs.Int.RustNames.{bit_or}
unfoldable pub use Rattle.std.specs.Int.RustNames.{count_ones}
pub use Rattle.std.proofs.lemmas.Nat.{one_shl, shr-shr, le-div, pow_pos, be_bytes_8, from_be_bytes-to_be_bytes_8, mod-pow-add, ones_cat, mod_below, pow_below, or_lt}
pub use Rattle.std.specs.Int.{bit_at, w64, to_be_bytes, from_be_bytes}
pub use Rattle.std.proofs.lemmas.List.Sorted.{IsPartitionPoint-from_clause, IsPartitionedBy-ltb, IsPartitionedBy-leb}
pub use Rattle.sparse_merkle.specs.Opening.{parent_string, digest_at_level, HasClash}
unfoldable pub use Rattle.sparse_merkle.specs.Opening.{hashed_string, hashed_strings, is_opening}
pub use Rattle.sparse_merkle.specs.TreeDigest.{near_part, far_part, default_digest, AreDefaults, bit_of, leaf_string, IsSubtree, node_string, entry_of, with_leaf, only_leaf, left_part, right_part, IsMap, IsPlaces}
unfoldable pub use Rattle.sparse_merkle.specs.TreeDigest.{subtree_digest, path_below, path_to, leaf_of, root_of}
pub use Rattle.sparse_merkle.specs.MaskedPath.{MaskedPath, IsMaskedPath, is_canonical, MasksPath, shown_sibling, sibling_at, shows_default, mask_in, has_proof_length, masked_path_in, proof_or_refusal}
unfoldable pub use Rattle.sparse_merkle.specs.MaskedPath.{proof_path, siblings_in, set_bits, proof_text, lowest_default, proof_in}
pub use Rattle.sparse_merkle.specs.declared.tree.Entry.{Entry}
