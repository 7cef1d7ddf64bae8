-- Which tips of a coin are guarded by quiet watchers, by facts, is what events say.
use Rattle.std.proofs.Common.{◌≡◌, inl, inr, ℕ, ◌==◌, ◌&&◌, ◌||◌, not, Bool, true, List, [], ◌∷◌, filter, refl, ap, sym, ◌∙◌, arith}
use Rattle.std.specs.List.{list_any}
use Rattle.std.proofs.lemmas.Bool.{false≢true, and_parts, and_from, or_cases, or_left, or_right, eqb-true, eq-eqb}
use Rattle.std.proofs.lemmas.List.Folds.{list_any-append}
use Rattle.std.proofs.lemmas.Grind.{common_steps}
use Rattle.plasma_tx.specs.Shown.{Tests, Rules}
use Rattle.coin_history.specs.declared.bundle.Bundle.{Bundle}
use Rattle.world_rules.specs.Events.{Event, Joins, Guards, Releases, Watches, log_of, is_bundle, guarded_by, watchers}
use Rattle.world_rules.specs.Safety.{is_quiet, is_watched_by, is_guarded}
use Rattle.coin_verdicts.specs.declared.fact.Fact.{Fact}
use Rattle.coin_verdicts.specs.declared.note.Guard.{Guard}
use Rattle.coin_verdicts.specs.Facts.{has, IsFact, AreFacts}
use Rattle.coin_verdicts.specs.Notes.{is_guard, guards_in, quiet_in, tips_at}
use Rattle.coin_verdicts.proofs.Forms.{is_of_call, call-form, watch-form}
use Rattle.coin_verdicts.proofs.Lists.{same_truth, or-false, or-comm, any-dropped, any-made, any-at, eqb-comm}
use Rattle.coin_verdicts.proofs.QuietNodes.{quiet-same}

-- a pair that passes is the pair that is dropped, or it isn't
pair-is : (a b m n i j : ℕ) → ((a == m) && (b == n)) ≡ true → ((a == i) && (b == j)) ≡ ((i == m) && (j == n))
pair-is a b m n i j is = grind (arith, common_steps, and_parts, eqb-true, eqb-comm) steps 20000

released-guards : (g e v k : ℕ) (guards : List Guard)
    → list_any (is_guard g e) (filter (λ guard. not (is_guard v k guard)) guards)
    ≡ (not ((v == g) && (k == e)) && list_any (is_guard g e) guards)
released-guards g e v k guards =
    any-dropped (is_guard g e) (is_guard v k) ((v == g) && (k == e)) guards
    (λ guard. pair-is guard.watcher guard.tip g e v k)

released-bundles : (c e d k : ℕ) (bundles : List Bundle)
    → list_any (is_bundle c e) (filter (λ bundle. not (is_bundle d k bundle)) bundles)
    ≡ (not ((d == c) && (k == e)) && list_any (is_bundle c e) bundles)
released-bundles c e d k bundles =
    any-dropped (is_bundle c e) (is_bundle d k) ((d == c) && (k == e)) bundles
    (λ bundle. pair-is bundle.coin bundle.tip c e d k)

call-guards : (fact : Fact) (facts : List Fact) (c : ℕ) → is_of_call fact ≡ true
    → guards_in (fact ∷ facts) c ≡ guards_in facts c
unfolding guards_in
call-guards fact facts c h = grind (arith, common_steps, false≢true) steps 20000

module _ (tests : Tests) (rules : Rules) where
  guards-step : (event : Event) (events : List Event) (fact : Fact) (facts : List Fact) (g c e : ℕ)
      → IsFact tests rules events event fact
      → list_any (is_guard g e) (guards_in facts c) ≡ list_any (is_bundle c e) (guarded_by events g)
      → list_any (is_guard g e) (guards_in (fact ∷ facts) c) ≡ list_any (is_bundle c e) (guarded_by (event ∷ events) g)
  unfolding guards_in guarded_by
  guards-step (Guards v bundle) events fact facts g c e h same =
      grind (arith, common_steps, list_any-append, or-false, or-comm) steps 20000
  guards-step (Releases v d k) events fact facts g c e h same =
      grind (arith, common_steps, released-guards, released-bundles) steps 20000
  guards-step (Joins call) events fact facts g c e h same =
      rw (call-guards fact facts c (call-form tests rules (log_of events) call fact h)) same
  guards-step (Watches n calls) events fact facts g c e h same = rw (watch-form n calls fact h).is same
  guards-step event events fact facts g c e h same = rw h same

  pub guards-same : (events : List Event) (facts : List Fact) (g c e : ℕ) → AreFacts tests rules events facts
      → list_any (is_guard g e) (guards_in facts c) ≡ list_any (is_bundle c e) (guarded_by events g)
  unfolding guards_in guarded_by
  guards-same [] [] g c e h = refl
  guards-same [] (fact ∷ facts) g c e h = elim h [ ]
  guards-same (event ∷ events) [] g c e h = elim h [ ]
  guards-same (event ∷ events) (fact ∷ facts) g c e h =
      guards-step event events fact facts g c e h.0 (guards-same events facts g c e h.1)

-- ---- watchers

-- a watcher that guards something is among the watchers
some-bundle : (p : Bundle → Bool) (q : Bundle → Bool) (bundles : List Bundle)
    → list_any p (filter q bundles) ≡ true → list_any p bundles ≡ true
some-bundle p q [] is = is
some-bundle p q (x ∷ xs) is = grind (arith, common_steps, some-bundle p q xs, or_cases, or_left, or_right) steps 20000

watcher-is : (events : List Event) (g c e : ℕ) → list_any (is_bundle c e) (guarded_by events g) ≡ true
    → has (watchers events) g ≡ true
unfolding guarded_by watchers
watcher-is [] g c e is = is
watcher-is (Guards v bundle ∷ events) g c e is =
    grind (arith, common_steps, watcher-is events g c e, or_left, or_right) steps 20000
watcher-is (Releases v d k ∷ events) g c e is =
    grind (arith, common_steps, watcher-is events g c e, some-bundle) steps 20000
watcher-is (event ∷ events) g c e is = watcher-is events g c e is

-- a guard at the tip, of a watcher that passes
abbrev passes_at : (ℕ → Bool) → ℕ → Guard → Bool
passes_at quiet e guard = quiet guard.watcher && (guard.tip == e)

guard-found : (quiet : ℕ → Bool) (g e : ℕ) (guards : List Guard) → quiet g ≡ true
    → list_any (is_guard g e) guards ≡ true → list_any (passes_at quiet e) guards ≡ true
guard-found quiet g e [] passes is = is
guard-found quiet g e (x ∷ xs) passes is = elim (or_cases (is_guard g e x) (list_any (is_guard g e) xs) is) [
  | inl here ↦
      grind (arith, common_steps, and_parts, or_left, and_from, eqb-true) steps 20000
  | inr later ↦ grind (arith, common_steps, guard-found quiet g e xs passes later, or_right) steps 20000
]

record Found (quiet : ℕ → Bool) (e : ℕ) (guards : List Guard) : Type 0 where
  watcher : ℕ
  passes : quiet watcher ≡ true
  guards_it : list_any (is_guard watcher e) guards ≡ true

found-guard : (quiet : ℕ → Bool) (e : ℕ) (guards : List Guard) → list_any (passes_at quiet e) guards ≡ true
    → Found quiet e guards
found-guard quiet e [] is = absurd (false≢true is)
found-guard quiet e (x ∷ xs) is = elim (or_cases (passes_at quiet e x) (list_any (passes_at quiet e) xs) is) [
  | inl here ↦
      grind (arith, common_steps, and_parts, or_left, and_from, eq-eqb) steps 20000
  | inr later ↦
      grind (arith, common_steps, found-guard quiet e xs later, or_right) steps 20000
]

-- some watcher passes and guards exactly where a guard of one that passes is there
watched-any : (quiet : ℕ → Bool) (guarding : ℕ → Bool) (e : ℕ) (guards : List Guard) (all : List ℕ)
    → ((g : ℕ) → list_any (is_guard g e) guards ≡ guarding g) → ((g : ℕ) → guarding g ≡ true → has all g ≡ true)
    → list_any (λ g. quiet g && guarding g) all ≡ list_any (passes_at quiet e) guards
watched-any quiet guarding e guards all same among = same_truth _ _ (to all) back
  where
    to : (some : List ℕ) → list_any (λ g. quiet g && guarding g) some ≡ true
        → list_any (passes_at quiet e) guards ≡ true
    to [] is = absurd (false≢true is)
    to (g ∷ gs) is = elim (or_cases (quiet g && guarding g) (list_any (λ k. quiet k && guarding k) gs) is) [
      | inl here ↦
          grind (arith, common_steps, and_parts, guard-found) steps 20000
      | inr later ↦ to gs later
    ]

    back : list_any (passes_at quiet e) guards ≡ true → list_any (λ g. quiet g && guarding g) all ≡ true
    back is =
        let found = found-guard quiet e guards is in
        grind (arith, common_steps, any-at, and_from) steps 20000

any-ext : {X : Type 0} (p q : X → Bool) (xs : List X) → ((x : X) → p x ≡ q x) → list_any p xs ≡ list_any q xs
any-ext p q [] same = refl
any-ext p q (x ∷ xs) same =
    ap (λ b. b || list_any p xs) (same x) ∙ ap (λ b. q x || b) (any-ext p q xs same)

module _ (tests : Tests) (rules : Rules) where
  -- a tip is among those that a note names exactly where a quiet watcher guards it
  pub tips-same : (events : List Event) (facts : List Fact) (c e : ℕ) → AreFacts tests rules events facts
      → has (tips_at (quiet_in facts c) (guards_in facts c)) e
      ≡ list_any (is_watched_by events c e) (watchers events)
  tips-same events facts c e h =
      any-made (λ tip. tip == e) (λ guard. guard.tip) (λ guard. quiet_in facts c guard.watcher) (guards_in facts c)
      ∙ any-ext (λ guard. quiet_in facts c guard.watcher && (guard.tip == e))
      (passes_at (λ g. is_quiet events g c) e) (guards_in facts c)
      (λ guard. ap (λ b. b && (guard.tip == e)) (quiet-same tests rules events facts c guard.watcher h))
      ∙ sym (watched-any (λ g. is_quiet events g c) (λ g. list_any (is_bundle c e) (guarded_by events g)) e
      (guards_in facts c) (watchers events) (λ g. guards-same tests rules events facts g c e h)
      (λ g. watcher-is events g c e))

  -- the coin is guarded exactly where a note says so
  pub guarded-same : (events : List Event) (facts : List Fact) (w c e : ℕ) → AreFacts tests rules events facts
      → (quiet_in facts c w || has (tips_at (quiet_in facts c) (guards_in facts c)) e)
      ≡ is_guarded events w c e
  unfolding is_guarded
  guarded-same events facts w c e h = grind (arith, common_steps, quiet-same, tips-same) steps 20000
