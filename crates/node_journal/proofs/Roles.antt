-- Records of a role.
use Rattle.node_journal.proofs.Words.{◌≡◌, ◌<◌, ◌≤◌, ◌+◌, ◌&&◌, ℕ, suc, Bool, true, false, List, [], ◌∷◌, length, Ok, Err, refl, inl, inr, arith, cases_Bool, list_all, prefix_len, common_steps, spelled, Kinds, are_of, front_of, of_kinds, NotesFollow}
use Rattle.std.proofs.lemmas.List.Sums.{prefix_len-le-length}
use Rattle.std.proofs.lemmas.List.Folds.{list_all-append, length-prefix_len}

both_more : (a b c : Bool) → (a && b) ≡ true → c ≡ true → (a && (b && (c && true))) ≡ true
both_more a b c is may = grind (arith, common_steps) steps 20000

pub notes_follow : NotesFollow
notes_follow kinds _ body is may = grind (arith, common_steps, list_all-append, both_more) steps 20000

-- all pass exactly where the front that passes is all
all_pass : (test : List ℕ → Bool) (notes : List (List ℕ)) → prefix_len test notes ≡ length notes
    → list_all test notes ≡ true
all_pass test [] is = refl
all_pass test (body ∷ notes) is = elim (cases_Bool (test body)) [
  | inl passes ↦
      let more : 1 + prefix_len test notes ≡ suc (length notes) = rw passes at is in
      rw passes (all_pass test notes (omega (arith, more)))
  | inr fails ↦ (let none : 0 ≡ suc (length notes) = rw fails at is in absurd (omega (arith, none)))
]

pass_all : (test : List ℕ → Bool) (notes : List (List ℕ)) → list_all test notes ≡ true
    → prefix_len test notes ≡ length notes
pass_all test [] is = refl
pass_all test (body ∷ notes) is = elim (cases_Bool (test body)) [
  | inl passes ↦ (let rest = pass_all test notes (rw passes at is) in rw passes (omega (arith, rest)))
  | inr fails ↦ (let no' : false ≡ true = rw fails at is in absurd (cc no'))
]

-- the front is all exactly where there are records and they are of the role
pub all_front : (kinds : Kinds) (records : List (List ℕ)) → length (front_of kinds records) ≡ length records
    → 0 < length records → are_of kinds records ≡ true
all_front kinds records is some = grind (arith, common_steps, all_pass, length-prefix_len) steps 20000

pub front_all : (kinds : Kinds) (records : List (List ℕ)) → are_of kinds records ≡ true
    → (length (front_of kinds records) ≡ length records) × (0 < length records)
front_all kinds records is = grind (arith, common_steps, pass_all, length-prefix_len) steps 20000

-- records whose front isn't all aren't of the role
pub not_of : (kinds : Kinds) (records : List (List ℕ)) → (are_of kinds records ≡ true → ⊥)
    → of_kinds kinds records ≡ Err (length (spelled (front_of kinds records)))
not_of kinds records not = grind (arith, common_steps) steps 20000

pub of : (kinds : Kinds) (records : List (List ℕ)) → are_of kinds records ≡ true → of_kinds kinds records ≡ Ok records
of kinds records is = rw is refl

-- the notes in front are no more than all
pub front_within : (test : List ℕ → Bool) (notes : List (List ℕ)) → prefix_len test notes ≤ length notes
front_within test notes = prefix_len-le-length test notes
