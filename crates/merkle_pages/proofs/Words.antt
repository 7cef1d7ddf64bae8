-- Names that the files beside this one use.
pub use Rattle.std.proofs.Common.{◌≡◌, ◌≢◌, ℕ, suc, ◌+◌, ◌/◌, ◌^◌, ◌<◌, Bool, false, nat_lt, List, [], ◌∷◌, ◌++◌, length, get_or, refl, inl, inr, arith, Some, None, Result, Ok, Err, OnOk, OnErr, slice_index_or, rules, ◌-◌, ◌*◌, ◌∙◌, ◌≤◌, ◌==◌, Option, IsSome, sym, ap, map, length-set, get_or-set_other, get_or-set_same, ◌⊎◌, zero, ◌&&◌, true, not, ◌%◌, cond, IfOk}
pub use Rattle.std.specs.BTreeMap.{insert_entry, is_at, BTreeMap, get}
pub use Rattle.std.specs.Option.{unwrap_or}
pub use Rattle.std.specs.Ordering.{nat_cmp, ordering_then, is_eq}
pub use Rattle.std.proofs.lemmas.Bool.{cases_Bool, cases_lt, ne_eqb, lt-ltb, le-ltb, cases_eq, eqb-true, eqb-false, eq-eqb, both_ways}
pub use Rattle.std.proofs.lemmas.List.{nil_from_length, ext_get_or, get_or_push, get_or_append_left, get_or-map, length-map}
pub use Rattle.std.proofs.lemmas.Grind.{common_steps}
pub use Rattle.std.specs.Int.Bits.{bit_xor}
pub use Rattle.std.proofs.lemmas.Nat.{shr-shr, xor_lt, pow_below, pow_pos, mod_below}
pub use Rattle.std.proofs.Math.Nat.{div-le_self, pow-succ', div-add-mod}
pub use Rattle.std.specs.List.{filter, All, AllPairs, AllByRecursion}
pub use Rattle.std.proofs.lemmas.List.Elements.{filter-append, All-head, All-tail, recursion_from_All, filter_passes}
pub use Rattle.sparse_merkle.specs.TreeDigest.{bit_of, leaf_string, entry_of, with_leaf, IsMap, default_digest, AreDefaults, only_leaf, near_part, far_part, IsSubtree, node_string}
unfoldable pub use Rattle.sparse_merkle.specs.TreeDigest.{subtree_digest, root_of, leaf_of, path_to, path_below}
pub use Rattle.merkle_pages.specs.Leaves.{entries_in, coins_of, near_coins, far_coins, entry_in}
pub use Rattle.sparse_merkle.specs.declared.tree.Entry.{Entry}
pub use Rattle.sparse_merkle.proofs.TreeLaws.{leaf_of-with_leaf, IsMap-with_leaf, agree-lower, bit_at-same, parent_string-sides, length-path_below, IsSubtree-parted, default_digest-suc}
pub use Rattle.merkle_pages.specs.Nodes.{KeepsNodes, KeepsDefaults, IsClear, KeepsNode, AddsPart}
unfoldable pub use Rattle.merkle_pages.specs.Nodes.{part_at}
pub use Rattle.merkle_pages.specs.Pages.{Paged, node_at, ReadsSame, SameNodes, PutsAt, name_in, name_at, place_at, read_at, SetsWay, kept_digest, name_cmp, page_node, PutsNode, TakesSiblings}
pub use Rattle.sparse_merkle.specs.Opening.{parent_string}
pub use Rattle.sparse_merkle.proofs.Lists.{AllPairs-filter, filter-front, filter-back}
