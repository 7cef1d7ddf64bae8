-- Openings that were tested are tested again by the wallets alone that were declared since.
use Rattle.std.proofs.Common.{◌≡◌, ◌⊎◌, ℕ, zero, suc, ◌-◌, ◌≤◌, ◌==◌, ◌||◌, nat_eq, Bool, true, false, if◌then◌else◌, List, [], ◌∷◌, length, take, Option, Some, None, inl, inr, refl, sym, ap, ◌∙◌, subst, arith}
use Rattle.std.specs.Prelude.{unwrap_or, IfSome}
use Rattle.std.specs.List.{list_any, slice_get}
use Rattle.std.specs.HashMap.{get}
use Rattle.std.proofs.lemmas.Bool.{cases_Bool, true≢false, false≢true, or_cases, or_left, or_right, eqb-true, eq-eqb}
use Rattle.std.proofs.lemmas.List.{take_all}
use Rattle.plasma_tx.specs.declared.owner.Owner.{Owner}
use Rattle.plasma_tx.specs.declared.body.Body.{Body}
use Rattle.plasma_tx.specs.declared.signed_tx.SignedTx.{SignedTx}
use Rattle.plasma_tx.specs.declared.opening.RawOpening.{RawOpening}
use Rattle.plasma_tx.specs.Openings.{leaf_in}
use Rattle.plasma_tx.specs.Transfer.{transfer_in, is_signed_by}
use Rattle.world_rules.specs.Events.{Event, Declares, Binds, wallet_owner, wallets, bound_by}
use Rattle.world_rules.specs.Exhibits.{is_same_body, forges_transfer, forges_one}
use Rattle.trace_exhibits.proofs.KeptWallets.{or-false, and-false}
use Rattle.trace_exhibits.specs.Opened.{Opened}
use Rattle.trace_exhibits.specs.Lines.{event_of}
use Rattle.trace_exhibits.specs.Wallets.{is_wallet_in, wallets_since, forges_by, is_forged_in, is_forged_since}
use Rattle.trace_exhibits.specs.Tested.{count_at, IsTestedBy, KeepsTested}
use Rattle.trace_exhibits.specs.declared.lines.ExhibitLine.{ExhibitLine}
use Rattle.trace_exhibits.specs.declared.tested.Tested.{Tested}

-- ---- lists

take-false : (p : ℕ → Bool) (n : ℕ) (xs : List ℕ) → list_any p xs ≡ false → list_any p (take n xs) ≡ false
take-false p zero xs none = refl
take-false p (suc n) [] none = refl
take-false p (suc n) (x ∷ xs) none = elim (cases_Bool (p x)) [
  | inl is ↦ let wrong : true ≡ false = rw is at none in absurd (true≢false wrong)
  | inr isnt ↦ rw isnt (take-false p n xs (rw isnt at none))
]

any-found : (p : ℕ → Bool) (xs : List ℕ) → list_any p xs ≡ true
    → (w : ℕ) × (is_wallet_in xs w ≡ true) × (p w ≡ true)
any-found p [] is = absurd (false≢true is)
any-found p (x ∷ xs) is = elim (cases_Bool (p x)) [
  | inl passes ↦ (x, or_left (x == x) (is_wallet_in xs x) (eq-eqb x x refl), passes)
  | inr fails ↦
      let found = any-found p xs (rw fails at is) in
      (found.0, or_right (x == found.0) (is_wallet_in xs found.0) found.1, found.2)
]

any-at : (p : ℕ → Bool) (w : ℕ) (xs : List ℕ) → is_wallet_in xs w ≡ true → p w ≡ true → list_any p xs ≡ true
any-at p w [] among passes = absurd (false≢true among)
any-at p w (x ∷ xs) among passes = elim (or_cases (x == w) (is_wallet_in xs w) among) [
  | inl here ↦ or_left (p x) (list_any p xs) (ap p (eqb-true x w here) ∙ passes)
  | inr later ↦ or_right (p x) (list_any p xs) (any-at p w xs later passes)
]

-- one more wallet is among the newer ones
take-newer : (count x : ℕ) (xs : List ℕ) → count ≤ length xs
    → take (length (x ∷ xs) - count) (x ∷ xs) ≡ x ∷ take (length xs - count) xs
take-newer count x xs few =
    let more : length (x ∷ xs) - count ≡ suc (length xs - count) = omega arith in rw more refl

-- ---- one more line

-- one more body makes no forgery
bound-more : (me : Owner) (bodies : List Body) (body : Body) (is : Bool) (found : Option SignedTx)
    → forges_transfer me bodies found ≡ false
    → forges_transfer me (if is then body ∷ bodies else bodies) found ≡ false
bound-more me bodies body is None none = refl
bound-more me bodies body false (Some tx) none = none
bound-more me bodies body true (Some tx) none = elim (cases_Bool (is_same_body tx.body body)) [
  | inl same ↦ rw same (and-false (is_signed_by tx me) false refl)
  | inr apart ↦ rw apart none
]

one-more-bound : (tag : List ℕ) (owner : Option Owner) (bodies : List Body) (body : Body) (is : Bool) (coin : ℕ)
    (opening : RawOpening) → forges_one tag owner bodies coin (opening ∷ []) ≡ false
    → forges_one tag owner (if is then body ∷ bodies else bodies) coin (opening ∷ []) ≡ false
one-more-bound tag None bodies body is coin opening none = refl
one-more-bound tag (Some me) bodies body is coin opening none =
    let found = transfer_in tag coin opening.block (leaf_in opening.bytes) in
    or-false (forges_transfer me (if is then body ∷ bodies else bodies) found)
    ∙ bound-more me bodies body is found (sym (or-false (forges_transfer me bodies found)) ∙ none)

module _ (tag : List ℕ) (events : List Event) (count : ℕ) (one : Opened) (was : IsTestedBy tag events count one) where
  declared-behind : (w : ℕ) (me : Owner) → IsTestedBy tag (Declares w me ∷ events) count one
  unfolding wallets wallet_owner bound_by
  declared-behind w me = record {
    few = let few = was.few in omega arith;
    since = λ v among forges. rw (take-newer count w (wallets events) was.few) (elim (cases_Bool (w == v)) [
      | inl own ↦ or_left (w == v) (is_wallet_in (wallets_since count events) v) own
      | inr apart ↦
          or_right (w == v) (is_wallet_in (wallets_since count events) v)
          (was.since v (rw apart at among) (rw apart at forges))
    ]);
  }

  bound-behind : (w : ℕ) (body : Body) → IsTestedBy tag (Binds w body ∷ events) count one
  unfolding wallets wallet_owner bound_by
  bound-behind w body = record {
    few = was.few;
    since = λ v among forges. elim (cases_Bool (forges_by tag events one v)) [
      | inl forged ↦ was.since v among forged
      | inr none ↦ absurd (true≢false (sym forges
          ∙ one-more-bound tag (wallet_owner events v) (bound_by events v) body (w == v) one.coin one.opening none))
    ];
  }

  line-behind : (line : ExhibitLine) → IsTestedBy tag (event_of line ∷ events) count one
  unfolding wallets wallet_owner bound_by
  line-behind (ExhibitLine.Declares w me) = declared-behind w me.now
  line-behind (ExhibitLine.Binds w body) = bound-behind w body.now
  line-behind (ExhibitLine.Joins call) = record { few = was.few; since = was.since }
  line-behind (ExhibitLine.Shows coin openings) = record { few = was.few; since = was.since }
  line-behind ExhibitLine.Other = record { few = was.few; since = was.since }

-- what was tested stays so behind a line
pub tested-behind : (tag : List ℕ) (events : List Event) (met : List Opened) (tested : Tested) (line : ExhibitLine)
    → KeepsTested tag events met tested → KeepsTested tag (event_of line ∷ events) met tested
tested-behind tag events met tested line keeps place count is =
    let was = keeps place count is in (was.0, was.1, line-behind tag events count was.0 was.2 line)

-- ---- one more test

-- an opening that was found stands at its place
pub found-stands : (met : List Opened) (place : Option ℕ) (coin : ℕ) (opening : RawOpening) (one : Opened)
    → IfSome place (λ at. slice_get met at ≡ Some (record { coin = coin; opening = opening })) → coin ≡ one.coin
    → opening ≡ one.opening → (at : ℕ) → place ≡ Some at → slice_get met at ≡ Some one
found-stands met None coin opening one stands same_coin same_opening at is = absurd (cc is)
found-stands met (Some place) coin opening one stands same_coin same_opening at is =
    let same : place ≡ at = cc is in
    let by : ℕ → RawOpening → Option Opened = λ k o. Some (record { coin = k; opening = o }) in
    ap (slice_get met) (sym same) ∙ stands ∙ ap (λ k. by k opening) same_coin
    ∙ ap (λ o. by one.coin o) same_opening

module _ (tag : List ℕ) (events : List Event) where
  same-since : (count : ℕ) (one : Opened) → IsTestedBy tag events count one
      → is_forged_since tag count events one ≡ is_forged_in tag events one
  same-since count one was = elim (cases_Bool (is_forged_in tag events one)) [
    | inl forged ↦
        let found = any-found (forges_by tag events one) (wallets events) forged in
        any-at (forges_by tag events one) found.0 (wallets_since count events) (was.since found.0 found.1 found.2)
        found.2 ∙ sym forged
    | inr none ↦
        take-false (forges_by tag events one) (length (wallets events) - count) (wallets events) none ∙ sym none
  ]

  untested : (one : Opened) → is_forged_since tag 0 events one ≡ is_forged_in tag events one
  untested one =
      ap (list_any (forges_by tag events one))
      (take_all (length (wallets events) - 0) (wallets events) (omega arith))

  -- of an opening that was tested, or not, newer wallets say all
  pub newer-say : (met : List Opened) (tested : Tested) (place : Option ℕ) (one : Opened)
      → KeepsTested tag events met tested → ((at : ℕ) → place ≡ Some at → slice_get met at ≡ Some one)
      → is_forged_since tag (count_at tested place) events one ≡ is_forged_in tag events one
  newer-say met tested None one keeps stands = untested one
  newer-say met tested (Some place) one keeps stands = by (get nat_eq tested.places place) refl
    where
      by : (found : Option ℕ) → get nat_eq tested.places place ≡ found
          → is_forged_since tag (unwrap_or found 0) events one ≡ is_forged_in tag events one
      by None is = untested one
      by (Some count) is =
          let was = keeps place count is in
          let both : Some was.0 ≡ Some one = sym was.1 ∙ stands place refl in
          let same : was.0 ≡ one = cc both in
          same-since count one (subst (λ (other : Opened). IsTestedBy tag events count other) same was.2)

  -- no wallet is newer
  pub none-newer : (count : ℕ) (one : Opened) → count ≡ length (wallets events)
      → is_forged_since tag count events one ≡ false
  none-newer count one is =
      let none : length (wallets events) - count ≡ 0 = omega arith in
      ap (λ n. list_any (forges_by tag events one) (take n (wallets events))) none

  -- an opening that shows no forgery was tested by all wallets
  pub tested-now : (one : Opened) → is_forged_in tag events one ≡ false
      → IsTestedBy tag events (length (wallets events)) one
  tested-now one none = record {
    few = omega arith;
    since = λ w among forges. absurd (true≢false (sym (any-at (forges_by tag events one) w (wallets events) among
        forges) ∙ none));
  }

  pub tested-more : (met : List Opened) (old new : Tested) (place : Option ℕ) (count : ℕ) (one : Opened)
      → KeepsTested tag events met old → ((at : ℕ) → place ≡ Some at → slice_get met at ≡ Some one)
      → count ≡ length (wallets events) → is_forged_in tag events one ≡ false
      → ((at number : ℕ) → get nat_eq new.places at ≡ Some number
      → (get nat_eq old.places at ≡ Some number) ⊎ ((place ≡ Some at) × (number ≡ count)))
      → KeepsTested tag events met new
  tested-more met old new place count one keeps stands all none added at number is = elim (added at number is) [
    | inl was ↦ keeps at number was
    | inr now ↦ (
      one,
      stands at now.0,
      subst (λ n. IsTestedBy tag events n one) (sym (now.1 ∙ all)) (tested-now one none),
    )
  ]
