-- What a call of a two-level signer does that isn't refused by its definition.
use Rattle.hss_runs.proofs.Words.{◌≡◌, ◌≤◌, ℕ, true, false, cond, List, [], ◌∷◌, ◌++◌, length, codes, Option, Some, None, Result, Ok, Err, refl, sym, ◌∙◌, ap, append_assoc, ◌≢◌, and_parts, leb-true, History, FaultPlan, NotesState, Did, HssSeed, Opens, Binds, bottom_key, entries_of, entry_text, opened_count, advance_effect, bind_effect, bound_of, level_stop, HssBoundState, NextLeaf, entries_added, is_signable, next_leaf, refuses, signed_text, signing, signs}
use Rattle.hex.specs.Hex.{encode_lower}
use Rattle.plasma_base.specs.HexText.{hex_text}
use Rattle.node_journal.specs.Effect.{Effect}
use Rattle.node_journal.specs.declared.stop.Stop.TheVariants.{DeviceFault as StopFault}
use Rattle.hss_keys.specs.declared.refusal.LevelRefusal.{LevelRefusal}
use Rattle.hss_keys.specs.declared.refusal.LevelRefusal.TheVariants.{LevelOpen, LevelSpent, KeySpent, Closed, NoMemory, DeviceFault}
use Rattle.hss_keys.proofs.Effects.{advance-goes, bind-goes}
use Rattle.hss_runs.specs.Inside.{stop_in}
use Rattle.hss_runs.proofs.Leaves.{IsOfLast, IsOfNew}

-- its refusal is what stopped it
pub stop-is : {T : Type 0} (why : LevelRefusal) (answer : Result T LevelRefusal) (value : T) → answer ≡ Ok value
    → (level_stop {T = T} (Err why) ≡ None → Err why ≡ answer) → level_stop {T = T} (Err why) ≡ Some (stop_in why)
stop-is (LevelOpen n) answer value is says = absurd (let wrong = says refl in cc (wrong, is))
stop-is (LevelSpent n) answer value is says = absurd (let wrong = says refl in cc (wrong, is))
stop-is (KeySpent n) answer value is says = absurd (let wrong = says refl in cc (wrong, is))
stop-is why answer value is says = refl

-- and it is a device fault, where the journal is open and no memory is taken
pub fault-is : {D T : Type 0} (told : D → Option History) (plan : D → Option FaultPlan) (faults : D → ℕ)
    (added : Option (List ℕ)) (old new : NotesState D) (why : LevelRefusal) (answer : Result T LevelRefusal) (value : T)
    → answer ≡ Ok value → (level_stop {T = T} (Err why) ≡ None → Err why ≡ answer) → old.closed ≡ false
    → why ≢ NoMemory → Did told plan faults added old (level_stop {T = T} (Err why)) new → stop_in why ≡ StopFault
fault-is told plan faults added old new DeviceFault answer value is says is_open enough did = refl
fault-is told plan faults added old new Closed answer value is says is_open enough did =
    absurd (let was = did.0 in cc (was, is_open))
fault-is told plan faults added old new NoMemory answer value is says is_open enough did = absurd (enough refl)
fault-is told plan faults added old new why answer value is says is_open enough did =
    absurd (let wrong = says refl in cc (wrong, is))

module _ (seed : HssSeed) (records : List (List ℕ)) (next : NextLeaf) where
  -- an advance, where the next leaf is the first of the next bottom key
  pub advance-answer : IsOfNew seed (entries_of records) next
      → (advance_effect seed records).answer ≡ Ok next.top_leaf
  advance-answer is =
      ap (λ (e : Effect (Result ℕ LevelRefusal)). e.answer) (advance-goes seed records is.has_none is.left)
      ∙ sym (λ i. Ok (is.top_leaf i))

  pub advance-note : IsOfNew seed (entries_of records) next
      → (advance_effect seed records).note ≡ Some (entry_text (Opens next.top_leaf (bottom_key seed next.top_leaf)))
  advance-note is =
      ap (λ (e : Effect (Result ℕ LevelRefusal)). e.note) (advance-goes seed records is.has_none is.left)
      ∙ sym (λ i. Some (entry_text (Opens (is.top_leaf i) (bottom_key seed (is.top_leaf i)))))

  -- a bind, where it is one of the last bottom key
  pub bind-answer : (message : List ℕ) → IsOfLast seed (entries_of records) next
      → (bind_effect seed records message).answer ≡ Ok (bound_of seed next.top_leaf next.leaf message)
  bind-answer message is =
      ap (λ (e : Effect (Result HssBoundState LevelRefusal)). e.answer) (bind-goes seed records message is.has)
      ∙ sym (λ i. Ok (bound_of seed (is.top_leaf i) (is.leaf i) message))

  pub bind-note : (message : List ℕ) → IsOfLast seed (entries_of records) next
      → (bind_effect seed records message).note ≡ Some (entry_text (Binds next.top_leaf next.leaf message))
  bind-note message is =
      ap (λ (e : Effect (Result HssBoundState LevelRefusal)). e.note) (bind-goes seed records message is.has)
      ∙ sym (λ i. Some (entry_text (Binds (is.top_leaf i) (is.leaf i) message)))

-- ---- what a run that signs comes to, in each case

-- the entries that are added, by whether the bottom key has to be opened
pub added-last : (seed : HssSeed) (next : NextLeaf) (message : List ℕ) → next.opens ≡ false
    → entries_added seed next message ≡ Binds next.top_leaf next.leaf message ∷ []
added-last seed next message is =
    ap (λ b. cond b (Opens next.top_leaf (bottom_key seed next.top_leaf) ∷ []) []
    ++ Binds next.top_leaf next.leaf message ∷ []) is

pub added-new : (seed : HssSeed) (next : NextLeaf) (message : List ℕ) → next.opens ≡ true
    → entries_added seed next message
    ≡ Opens next.top_leaf (bottom_key seed next.top_leaf) ∷ Binds next.top_leaf next.leaf message ∷ []
added-new seed next message is =
    ap (λ b. cond b (Opens next.top_leaf (bottom_key seed next.top_leaf) ∷ []) []
    ++ Binds next.top_leaf next.leaf message ∷ []) is

pub signable-parts : (message : List ℕ) → is_signable message ≡ true
    → (1 ≤ length message) × (length message ≤ 128)
signable-parts message is =
    let parts = and_parts _ _ is in (leb-true 1 (length message) parts.0, leb-true (length message) 128 parts.1)

module _ (seed : HssSeed) (records : List (List ℕ)) (message : List ℕ) where
  pub signing-short : is_signable message ≡ false
      → signing seed records message ≡ refuses (codes "bad-length") (length message)
  unfolding signing
  signing-short is = rw is refl

  pub signing-next : (next : NextLeaf) → is_signable message ≡ true
      → next_leaf seed (entries_of records) ≡ Some next → signing seed records message ≡ signs seed message next
  unfolding signing
  signing-next next is next_is = rw (is, next_is) refl

  pub signing-spent : is_signable message ≡ true → next_leaf seed (entries_of records) ≡ None
      → signing seed records message ≡ refuses (codes "key-spent") (opened_count (entries_of records))
  unfolding signing
  signing-spent is none = rw (is, none) refl

-- the text of an answer, as it is put together
pub text-is : (front digits bytes : List ℕ) → digits ≡ encode_lower bytes
    → ((front ++ 48 ∷ 120 ∷ []) ++ digits) ++ 10 ∷ [] ≡ (front ++ hex_text bytes) ++ 10 ∷ []
unfolding hex_text
text-is front digits bytes is =
    ap (λ (l : List ℕ). l ++ 10 ∷ [])
    (append_assoc front (48 ∷ 120 ∷ []) digits ∙ ap (λ (l : List ℕ). front ++ 48 ∷ 120 ∷ l) is)

-- an answer of what the next leaf is bound to, as it is put
pub answer-is : (seed now : HssSeed) (bound : HssBoundState) (next : NextLeaf) (message text line : List ℕ)
    → now ≡ seed → bound ≡ bound_of seed next.top_leaf next.leaf message
    → text ≡ signed_text now bound.top_leaf bound.leaf bound.message → line ≡ text
    → line ≡ signed_text seed next.top_leaf next.leaf message
answer-is seed now bound next message text line same is text_is line_is =
    line_is ∙ text_is ∙ (λ i. signed_text (same i) (is i).top_leaf (is i).leaf (is i).message)
