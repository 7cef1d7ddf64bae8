-- What a wallet holds at its top, as events say it, is what its records say that it holds or leaves with; and a bundle
-- shows it.
use Rattle.world_laws.proofs.Basics.{◌≡◌, ◌≢◌, ◌⊎◌, ℕ, ◌≤◌, ◌==◌, ◌&&◌, ◌||◌, Bool, true, false, if◌then◌else◌, List, [], ◌∷◌, find, Option, Some, None, inl, inr, refl, sym, ap, ◌∙◌, subst, arith, unwrap_or, All, list_any, eqb-true, eq-eqb, and_parts, and_from, or_cases, or_left, or_right, true≢false, false≢true, All-nil, All-cons, All-contains, common_steps, some_same, find-has}
use Rattle.world_laws.proofs.CoinWords.{Owner, RootCall, CoinView, coin_at, is_withdrawn, Bundle, CoinTip, Notes, Leaving, Held, own_deposit, noted_tips, tips_of, is_noted, IsTip, kept_coins_are_held, held_coins_are_kept, Has, has-contains, contains-has, has-left, has-right, has-cases, has-filter, has-map, any-has, any-map}
use Rattle.world_laws.proofs.NodeWords.{kept_links, is_of, notes_of, owner_of, leaves_in, coin_tip, WalletRecords, who, noted, coin_state, kept_at, held-tip, leaving-tip, accepted-tips}
use Rattle.world_laws.proofs.WorldWords.{Event, log_of, accepted, is_bundle, was_deposited, holds, AreKept, Said, said, KeptWallet, state-me, are_kept, is_tip, IsAtTop, ShowsTip, Bare}
use Rattle.world_laws.proofs.HeldCoins.{holding}
use Rattle.world_laws.proofs.GuardsShown.{IsShown, AreShown}
use Rattle.world_laws.proofs.AcceptsShown.{node_with, accepted_in}

-- ---- lists

-- what holds of what is in a list
all-listed : {X : Type 0} (P : X → Type 0) (xs : List X) → ((x : X) → Has xs x → P x) → All P xs
all-listed P [] each = All-nil P
all-listed P (x ∷ xs) each = All-cons P x xs (each x (inl refl)) (all-listed P xs (λ y h. each y (inr h)))

find-none : {X : Type 0} (p : X → Bool) (xs : List X) → find p xs ≡ None → list_any p xs ≡ false
find-none p [] none = refl
find-none {X} p (x ∷ xs) none =
    (elim (p x) as (λ b. (if b then Some x else find p xs) ≡ None → (b || list_any p xs) ≡ false) [
      | true ↦ λ wrong. absurd (cc wrong)
      | false ↦ λ rest. find-none p xs rest
    ]) none

-- ---- the tips of a coin

own-listed : (me : Owner) (e : ℕ) (made : Option CoinView) → was_deposited me e made ≡ true
    → Has (own_deposit me made) e
own-listed me e made is = grind (arith, common_steps, false≢true, and_parts, eqb-true)

listed-own : (me : Owner) (e : ℕ) (made : Option CoinView) → Has (own_deposit me made) e
    → was_deposited me e made ≡ true
listed-own me e made has = grind (arith, common_steps, and_from, eq-eqb)

noted-listed : (c e : ℕ) (notes : List CoinTip) → is_noted c e notes ≡ true → Has (noted_tips c notes) e
noted-listed c e [] is = absurd (false≢true is)
noted-listed c e (note ∷ notes) is = grind (arith, common_steps, noted-listed c e notes, or_cases, eqb-true)

listed-noted : (c e : ℕ) (notes : List CoinTip) → Has (noted_tips c notes) e → is_noted c e notes ≡ true
listed-noted c e notes has = grind (arith, common_steps, has-map, has-filter, any-has, and_from, eq-eqb)

module _ (dig : List ℕ → List ℕ) (s : Said) (log : List RootCall) (wallet : WalletRecords)
    (kept : KeptWallet dig s log wallet) (c e : ℕ) where
  abbrev notes : Notes
  notes = noted dig wallet

  abbrev me : Owner
  me = owner_of (who wallet)

  -- what is said of where it came to the wallet
  abbrev came : Bool
  came = was_deposited me e (coin_at log c) || list_any (is_bundle c e) s.accepted

  me-same : notes.me ≡ me
  me-same = state-me me (notes_of dig wallet.notes)

  own-tip : was_deposited me e (coin_at log c) ≡ true → Has (tips_of notes log c) e
  own-tip own = grind (arith, common_steps, has-left, me-same, own-listed)

  came-tip : came ≡ true → Has (tips_of notes log c) e
  came-tip is = grind (arith, common_steps, or_cases, own-tip, has-right, noted-listed)

  came-there : came ≡ true → coin_at log c ≢ None
  came-there is none = grind (arith, common_steps, or_cases, false≢true)

  tip-own : Has (own_deposit notes.me (coin_at log c)) e → was_deposited me e (coin_at log c) ≡ true
  tip-own has =
      listed-own me e (coin_at log c) (subst (λ (o : Owner). Has (own_deposit o (coin_at log c)) e) me-same has)

  tip-came : Has (tips_of notes log c) e → came ≡ true
  tip-came has = grind (arith, common_steps, has-cases, or_left, tip-own, or_right, listed-noted)

  -- a tip of which no note accepts anything is the wallet's own deposit
  bare-own : find (is_of c e) (accepted_in dig wallet.notes) ≡ None → Has (tips_of notes log c) e
      → was_deposited me e (coin_at log c) ≡ true
  bare-own none has = elim (has-cases (own_deposit notes.me (coin_at log c)) (noted_tips c notes.accepted) e has) [
    | inl own ↦ tip-own own
    | inr noted ↦ absurd (true≢false (
        sym (listed-noted c e notes.accepted noted)
        ∙ ap (is_noted c e) (accepted-tips me (notes_of dig wallet.notes))
        ∙ any-map (λ (one : Bundle). coin_tip one.coin one.tip)
        (λ (note : CoinTip). (note.coin == c) && (note.tip == e)) (accepted_in dig wallet.notes)
        ∙ find-none (is_of c e) (accepted_in dig wallet.notes) none))
  ]

-- ---- at the top

-- a bundle that shows a kept coin has its links
links-same : (tag : List ℕ) (log : List RootCall) (bundles : List Bundle) (kept : Bundle)
    → (by : IsShown tag bundles kept) → kept_links tag log by.bundle ≡ kept_links tag log kept
links-same tag log bundles kept by = grind (arith, common_steps)

-- a bundle shows the coin at the tip, and has the links of what the wallet keeps
pub record IsShownAt (dig : List ℕ → List ℕ) (events : List Event) (tag : List ℕ) (n : ℕ) (wallet : WalletRecords)
    (c e : ℕ) : Type 0 where
  pub bundle : Bundle
  pub coin_is : bundle.coin ≡ c
  pub tip_is : bundle.tip ≡ e
  pub shows : ShowsTip events n (owner_of (who wallet)) bundle
  pub links : (log : List RootCall) → kept_links tag log bundle ≡ kept_links tag log (kept_at dig wallet c e)

module _ (dig : List ℕ → List ℕ) (events : List Event) (tag : List ℕ) (log : List RootCall)
    (log_is : log ≡ log_of events) (n : ℕ) (wallet : WalletRecords)
    (own : KeptWallet dig (said events n) log wallet) where
  abbrev owner : Owner
  owner = owner_of (who wallet)

  are : AreKept dig events log n (node_with wallet)
  are = are_kept dig events log n (node_with wallet) log_is own

  -- what the wallet holds or leaves with
  abbrev pub IsHeldAt : ℕ → ℕ → Type 0
  IsHeldAt c e = (coin_state dig wallet log c ≡ Held e) ⊎ (coin_state dig wallet log c ≡ Leaving e)

  pub held-at-tip : (c e : ℕ) → IsHeldAt c e → IsTip (noted dig wallet) log c e
  held-at-tip c e (inl held) = held-tip dig wallet log c e held
  held-at-tip c e (inr leaving) = leaving-tip dig wallet log c e leaving

  came-same : (c e : ℕ) → is_tip events n (owner) c e ≡ came dig (said events n) log wallet own c e
  unfolding said
  came-same c e = grind (arith, common_steps)

  held-came : (c e : ℕ) → holds events n c e ≡ true → is_tip events n (owner) c e ≡ true
  held-came c e held =
      let h = holding events n c e held in
      grind (arith, common_steps, some_same, are, or_left, or_right)

  top-tip : (c e : ℕ) → IsAtTop events n (owner) c e → IsTip (noted dig wallet) log c e
  top-tip c e top =
      let here : came dig (said events n) log wallet own c e ≡ true = sym (came-same c e) ∙ held-came c e top.held in
      record {
        exists = came-there dig (said events n) log wallet own c e here;
        not_withdrawn = ap (λ l. is_withdrawn l c) log_is ∙ (holding events n c e top.held).not_withdrawn;
        is_one = has-contains (tips_of (noted dig wallet) log c) e
            (came-tip dig (said events n) log wallet own c e here);
        greatest = all-listed (λ other. other ≤ e) (tips_of (noted dig wallet) log c)
            (λ m has. top.top m (came-same c m ∙ tip-came dig (said events n) log wallet own c m has));
      }

  pub top-held : (c e : ℕ) → IsAtTop events n (owner) c e → IsHeldAt c e
  unfolding coin_state
  top-held c e top =
      held_coins_are_kept (noted dig wallet) (leaves_in wallet.leaves) log c e (top-tip c e top)
      (sym (are.held c e) ∙ top.held)

  pub held-top : (c e : ℕ) → IsHeldAt c e → IsAtTop events n (owner) c e
  unfolding coin_state
  held-top c e is = record {
    held = are.held c e ∙ kept_coins_are_held (noted dig wallet) (leaves_in wallet.leaves) log c e is;
    top = λ m tip.
        All-contains (λ other. other ≤ e) (tips_of (noted dig wallet) log c) m (held-at-tip c e is).greatest
        (has-contains (tips_of (noted dig wallet) log c) m
        (came-tip dig (said events n) log wallet own c m (sym (came-same c m) ∙ tip)));
  }

  -- what shows a coin at its tip
  pub shown-at : AreShown tag (accepted events n) (accepted_in dig wallet.notes) → (c e : ℕ)
      → IsTip (noted dig wallet) log c e → IsShownAt dig events tag n wallet c e
  unfolding said
  shown-at shown c e tip = by (find (is_of c e) (accepted_in dig wallet.notes)) refl
    where
      bare : Bundle
      bare = record { coin = c; tip = e; openings = [] }

      by : (found : Option Bundle) → find (is_of c e) (accepted_in dig wallet.notes) ≡ found
          → IsShownAt dig events tag n wallet c e
      by None none = record {
        bundle = bare;
        coin_is = refl;
        tip_is = refl;
        shows = Bare (ap (λ l. was_deposited (owner) e (coin_at l c)) (sym log_is)
            ∙ bare-own dig (said events n) log wallet own c e none
            (contains-has (tips_of (noted dig wallet) log c) e tip.is_one)) refl;
        links = λ l. ap (λ (o : Option Bundle). kept_links tag l (unwrap_or o bare)) (sym none);
      }
      by (Some one) some =
          let in_notes = find-has (is_of c e) (accepted_in dig wallet.notes) one some in
          let parts = and_parts (one.coin == c) (one.tip == e) in_notes.1 in
          let is = shown one in_notes.0 in
          grind (arith, common_steps, eqb-true, has-contains, links-same, bare)
