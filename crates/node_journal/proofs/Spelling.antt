-- The spelling of one more record.
use Rattle.node_journal.proofs.Words.{◌≡◌, ◌+◌, ℕ, List, [], ◌∷◌, ◌++◌, length, arith, length-append, common_steps, spelled_record, spelled_records, spelled}
use Rattle.std.specs.Int.{w32, to_be_bytes}

length-spelled_record : (body : List ℕ) → length (spelled_record body) ≡ 5 + length body
length-spelled_record body = omega (arith, length-append (to_be_bytes w32 (length body)) body)

length-spelled_records-push : (records : List (List ℕ)) (body : List ℕ)
    → length (spelled_records (records ++ body ∷ [])) ≡ length (spelled_records records) + (5 + length body)
length-spelled_records-push [] body = omega (arith, length-append (spelled_record body) [], length-spelled_record body)
length-spelled_records-push (first ∷ records) body =
    grind (arith, common_steps, length-spelled_records-push records body) steps 20000

pub length-spelled-push : (records : List (List ℕ)) (body : List ℕ)
    → length (spelled (records ++ body ∷ [])) ≡ length (spelled records) + (5 + length body)
length-spelled-push records body = grind (arith, common_steps, length-spelled_records-push) steps 20000
