use Rattle.std.proofs.Common.{rules, ◌≡◌, ◌∷◌, length, drop, take, slice_index_or, ◌∙◌, sym, ap, arith}
use Rattle.std.proofs.lemmas.List.{take_all}
use Rattle.std.proofs.Common.{ℕ, List, ◌≤◌, ◌<◌, length-drop, drop-cons}
use Rattle.trace_exhibits.proofs.hashed_string.node_parts.Goals as goal

whole : (bytes : List ℕ) → length bytes ≡ 65 → bytes ≡ slice_index_or bytes 0 0 ∷ take 64 (drop 1 bytes)
whole bytes long =
    let some : 0 < length bytes = omega arith in
    let short : length (drop 1 bytes) ≤ 64 = omega (arith, length-drop 1 bytes) in
    drop-cons bytes 0 0 some
    ∙ ap (λ (rest : List ℕ). slice_index_or bytes 0 0 ∷ rest) (sym (take_all 64 (drop 1 bytes) short))

pub returns : goal.returns
returns c =
    let long : length c.args.bytes.now ≡ 65 = search rules in
    whole c.args.bytes.now long
