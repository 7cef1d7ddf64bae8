-- What events say of a wallet's coins is what its records say.
use Rattle.world_rules.proofs.Basics.{◌≡◌, ℕ, zero, suc, ◌+◌, ◌<◌, ◌==◌, ◌&&◌, ◌||◌, not, Bool, true, false, if◌then◌else◌, List, [], ◌∷◌, ◌++◌, map, length, Option, Some, is_some, refl, sym, ap, ◌∙◌, arith, reverse, slice_get, find, list_any, range_with_len, reverse-append, length-reverse, length-map, map-append, list_any-append, common_steps}
use Rattle.world_rules.proofs.CoinWords.{Owner, Body, RootCall, CoinView, coin_at, CoinTip, LeafRecord, Notes, own_deposit, noted_tips, tips_of, spends_tip, sends_by, sending_leaf, is_noted, wallet_holds}
use Rattle.world_rules.proofs.NodeWords.{owner_of, leaves_in, WalletRecords, who, noted}
use Rattle.world_rules.proofs.WorldWords.{Event, log_of, wallet_owner, accepted, is_taken, not_taken, signed_away_by, is_sent_from, is_bundle, Node, wallet_of, was_deposited, holds_with, holds, AreKept}
use Rattle.world_rules.proofs.Said.{Said, said}
use Rattle.world_rules.proofs.KeptWallet.{KeptWallet, state-me}
use Rattle.world_rules.proofs.Runs.{push-same}

-- ---- lists

find-any : {X : Type 0} (p : X → Bool) (xs : List X) → is_some (find p xs) ≡ list_any p xs
find-any p [] = refl
find-any p (x ∷ xs) =
    let rest = find-any p xs in
    elim (p x) as (λ b. is_some (if b then Some x else find p xs) ≡ (b || list_any p xs)) [ true ↦ refl | false ↦ rest ]

or-assoc : (a b c : Bool) → (a || (b || c)) ≡ ((a || b) || c)
or-assoc a b c = grind (arith, common_steps)

or-false : (a : Bool) → (a || false) ≡ a
or-false a = grind (arith, common_steps)

-- some of the numbers, or the one behind them
any-push : (p : ℕ → Bool) (a n : ℕ)
    → list_any p (range_with_len a (suc n)) ≡ (list_any p (range_with_len a n) || p (a + n))
any-push p a zero =
    let same : a + 0 ≡ a = omega arith in or-false (p a) ∙ ap p (sym same)
any-push p a (suc n) = grind (arith, common_steps, any-push p (a + 1) n, or-assoc)

-- tests that agree on the numbers
any-agree : (p other : ℕ → Bool) (a n : ℕ) → ((q : ℕ) → q < a + n → p q ≡ other q)
    → list_any p (range_with_len a n) ≡ list_any other (range_with_len a n)
any-agree p other a zero same = refl
any-agree p other a (suc n) same =
    let here : p a ≡ other a = same a (omega arith) in
    let rest = any-agree p other (a + 1) n (λ q below. same q (omega (arith, below))) in
    grind (arith, common_steps)

get-before : {X : Type 0} (xs : List X) (y : X) (q : ℕ) → q < length xs
    → slice_get (xs ++ y ∷ []) q ≡ slice_get xs q
get-before [] y q below = absurd (omega (arith, below))
get-before (x ∷ xs) y zero below = refl
get-before (x ∷ xs) y (suc q) below = get-before xs y q (omega (arith, below))

-- ---- leaves that sign a coin away

record-of : Body → LeafRecord
record-of body = record { body = body }

-- the leaves that bind these bodies, the newest first
leaves-of : List Body → List LeafRecord
leaves-of bodies = map record-of (reverse bodies)

leaves-length : (bodies : List Body) → length (leaves-of bodies) ≡ length bodies
unfolding leaves-of
leaves-length bodies = length-map (reverse bodies) record-of ∙ length-reverse bodies

leaves-push : (body : Body) (bodies : List Body) → leaves-of (body ∷ bodies) ≡ leaves-of bodies ++ record-of body ∷ []
unfolding leaves-of
leaves-push body bodies =
    ap (map record-of) (reverse-append (body ∷ []) bodies) ∙ map-append record-of (reverse bodies) (body ∷ [])

-- leaves are those of their bodies
leaves-same : (leaves : List LeafRecord) → map record-of (map (λ (leaf : LeafRecord). leaf.body) leaves) ≡ leaves
unfolding record-of
leaves-same [] = refl
leaves-same (leaf ∷ leaves) = ap (λ (l : List LeafRecord). leaf ∷ l) (leaves-same leaves)

module _ (reclaimed taken : List ℕ)
    (same : (q : ℕ) → list_any (λ other. other == q) reclaimed ≡ is_taken taken q) (c e : ℕ) where
  sent-any : (bodies : List Body)
      → list_any (sends_by reclaimed (leaves-of bodies) c e) (range_with_len 0 (length bodies))
      ≡ is_sent_from (not_taken taken bodies) c e
  unfolding not_taken record-of
  sent-any [] = refl
  sent-any (body ∷ bodies) =
      let n = length bodies in
      let longer = sends_by reclaimed (leaves-of (body ∷ bodies)) c e in
      let before = sends_by reclaimed (leaves-of bodies) c e in
      any-push longer 0 n
      ∙ ap (λ (b : Bool). b || longer (0 + n)) (any-agree longer before 0 n (earlier n refl))
      ∙ ap (λ (b : Bool). b || longer (0 + n)) (sent-any bodies)
      ∙ ap (λ (b : Bool). is_sent_from (not_taken taken bodies) c e || b) (last-one n refl)
      ∙ joined (is_taken taken n)
    where
      earlier : (n : ℕ) → n ≡ length bodies → (q : ℕ) → q < 0 + n
          → sends_by reclaimed (leaves-of (body ∷ bodies)) c e q ≡ sends_by reclaimed (leaves-of bodies) c e q
      earlier n is q below = grind (arith, common_steps, leaves-push, get-before, leaves-of, record-of, leaves-length)

      last-one : (n : ℕ) → n ≡ length bodies → sends_by reclaimed (leaves-of (body ∷ bodies)) c e (0 + n)
          ≡ (spends_tip c e (record-of body) && not (is_taken taken n))
      last-one n is = grind (arith, common_steps, leaves-of, leaves-length, leaves-push, record-of, push-same)

      joined : (b : Bool)
          → (is_sent_from (not_taken taken bodies) c e || (spends_tip c e (record-of body) && not b))
          ≡ is_sent_from (if b then not_taken taken bodies else body ∷ not_taken taken bodies) c e
      joined true = grind (arith, common_steps, record-of)
      joined false = grind (arith, common_steps, record-of)

-- the leaves sign the coin away where a body that isn't taken back does
away-same : (reclaimed taken : List ℕ)
    → ((q : ℕ) → list_any (λ other. other == q) reclaimed ≡ is_taken taken q) → (c e : ℕ)
    → (leaves : List LeafRecord) (bodies : List Body)
    → map (λ (leaf : LeafRecord). leaf.body) leaves ≡ reverse bodies
    → is_some (sending_leaf reclaimed leaves c e) ≡ is_sent_from (not_taken taken bodies) c e
unfolding sending_leaf leaves-of
away-same reclaimed taken same c e leaves bodies are =
    let own : leaves ≡ leaves-of bodies = sym (leaves-same leaves) ∙ ap (map record-of) are in
    grind (arith, common_steps, find-any, leaves-of, leaves-length, sent-any)

-- ---- where a coin came to the wallet

-- at its own deposit
own-same : (me : Owner) (e : ℕ) (made : Option CoinView)
    → list_any (λ tip. tip == e) (own_deposit me made) ≡ was_deposited me e made
own-same me e made = grind (arith, common_steps)

-- or at a tip that it noted
noted-same : (c e : ℕ) (notes : List CoinTip)
    → list_any (λ tip. tip == e) (noted_tips c notes) ≡ is_noted c e notes
noted-same c e [] = refl
noted-same c e (note ∷ notes) = grind (arith, common_steps, noted-same c e notes)

agree : (own noted accepted : Bool) → (noted ≡ true → accepted ≡ true) → (accepted ≡ true → (own || noted) ≡ true)
    → (own || noted) ≡ (own || accepted)
agree own noted accepted there back = grind (arith, common_steps)

false-or : (b : Bool) → (b ≡ true → ⊥) → false ≡ b
false-or b never = grind (arith, common_steps)

module _ (dig : List ℕ → List ℕ) (s : Said) (log : List RootCall) (wallet : WalletRecords)
    (kept : KeptWallet dig s log wallet) (c e : ℕ) where
  abbrev notes : Notes
  notes = noted dig wallet

  abbrev me : Owner
  me = owner_of (who wallet)

  -- the events say that it came to the wallet there
  came-same : (is_some (coin_at log c) && list_any (λ tip. tip == e) (tips_of notes log c))
      ≡ (was_deposited me e (coin_at log c) || list_any (is_bundle c e) s.accepted)
  came-same = grind (arith, common_steps, list_any-append, own-same, state-me, noted-same, false-or, agree)

  -- so they say that it holds it there
  held-same : holds_with log s.owner (not_taken s.taken s.bound) s.accepted c e
      ≡ wallet_holds notes (leaves_in wallet.leaves) log c e
  unfolding wallet_holds
  held-same = grind (arith, common_steps, came-same, away-same)

-- what events say of a wallet is what its disks keep
pub are_kept : (dig : List ℕ → List ℕ) (events : List Event) (log : List RootCall) (n : ℕ) (node : Node)
    → log ≡ log_of events → KeptWallet dig (said events n) log (wallet_of node) → AreKept dig events log n node
unfolding said holds
are_kept dig events log n node log_is kept = record {
  owner = kept.owner;
  bodies = kept.bodies;
  taken = kept.taken;
  held = λ c e.
      ap (λ (l : List RootCall). holds_with l (wallet_owner events n) (signed_away_by events n) (accepted events n) c e)
      (sym log_is)
      ∙ held-same dig (said events n) log (wallet_of node) kept c e;
}
