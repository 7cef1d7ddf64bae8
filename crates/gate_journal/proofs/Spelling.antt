-- The spelling of one more record.
use Rattle.gate_journal.proofs.Words.{◌≡◌, ◌+◌, ℕ, List, [], ◌∷◌, ◌++◌, length, arith, append-nil, common_steps, spelled_record, spelled_records, spelled, frame_of}

spelled_records-push : (records : List (List ℕ)) (body : List ℕ)
    → spelled_records (records ++ body ∷ []) ≡ spelled_records records ++ spelled_record body
spelled_records-push [] body = append-nil (spelled_record body)
spelled_records-push (b ∷ records) body = grind (arith, common_steps, spelled_records-push records body) steps 20000

pub spelled-push : (records : List (List ℕ)) (body : List ℕ)
    → spelled (records ++ body ∷ []) ≡ spelled records ++ spelled_record body
spelled-push records body = grind (arith, common_steps, spelled_records-push) steps 20000

pub length-frame_of : (body : List ℕ) → length (frame_of body) ≡ length body + 5
length-frame_of body = grind (arith, common_steps) steps 20000

pub length-spelled-push : (records : List (List ℕ)) (body : List ℕ)
    → length (spelled (records ++ body ∷ [])) ≡ length (spelled records) + (5 + length body)
length-spelled-push records body = grind (arith, common_steps, spelled-push) steps 20000
