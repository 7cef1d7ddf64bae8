use Rattle.merkle_pages.proofs.Words.{◌≡◌, ◌^◌, ◌<◌, ℕ, List, Result, Ok, Err, OnOk, OnErr, arith, with_leaf, IsMap, IsMap-with_leaf, Entry, entries_in}
use Rattle.merkle_pages.proofs.leaves.Leaves.put.Goals as goal

IsMap-put : {A E : Type 0} (result : Result A E) (old new : List Entry) (coin : ℕ) (leaf : List ℕ) → IsMap old
    → coin < 2 ^ 64
    → OnOk result (new ≡ with_leaf old coin leaf) → OnErr result (new ≡ old) → IsMap new
IsMap-put (Ok value) old new coin leaf map lt done refused = rw done (IsMap-with_leaf old coin leaf map lt)
IsMap-put (Err error) old new coin leaf map lt done refused = rw refused map

pub invariant_of-self : goal.invariant_of-self
invariant_of-self c =
    IsMap-put c.put_leaf.result (entries_in c.self.inside.map.entries) (entries_in c.put_leaf.new.map.entries)
    c.args.coin c.args.leaf.now c.self.invariant (omega arith) c.put_leaf.ensures.ok c.put_leaf.ensures.err
