use Rattle.merkle_pages.proofs.Words.{◌≡◌, ℕ, List, Result, Ok, Err, IfOk, OnOk, arith, subtree_digest, IsMap, Entry, part_at, KeepsNodes, AddsPart, Paged}
use Rattle.merkle_pages.proofs.NodeLaws.{IsClear-bare, KeepsNodes-made}
use Rattle.merkle_pages.proofs.PartLaws.{part_at-whole}
use Rattle.merkle_pages.proofs.nodes.add_nodes.Goals as goal

made : {E : Type 0} (dig : List ℕ → List ℕ) (entries : List Entry)
    (bare new : Paged) (result : Result (List ℕ) E) → IsMap entries
    → IfOk result (λ root. root ≡ subtree_digest dig 64 (part_at 64 0 entries))
    → OnOk result (AddsPart dig entries 64 0 bare new) → IfOk result (λ root. KeepsNodes dig entries root new)
made dig entries bare new (Ok root) map is adds = KeepsNodes-made dig entries root bare new map is adds
made dig entries bare new (Err why) map is adds = tt

pub add_part-requires-clause-part : goal.add_part-requires-clause-part
add_part-requires-clause-part g c =
    rw (c.as_slice.ensures.value, part_at-whole 0 c.args.leaves.now (omega arith) c.coins.ensures.map.small)
    c.in_ok-coins.ensures.coins

pub add_part-requires-clause-clear : goal.add_part-requires-clause-clear
add_part-requires-clause-clear g c =
    IsClear-bare (g.H.Hash32.digest_of c.args.defaults.now) c.args.leaves.now 64 0 c.args.pages.now c.requires

pub returns : goal.returns
returns g c =
    made (g.H.Hash32.digest_of c.args.defaults.now) c.args.leaves.now c.args.pages.now c.add_part.new.pages
    c.add_part.result c.coins.ensures.map c.add_part.ensures.digest c.add_part.ensures.added
