-- The spends that answers showed, and the calls that show them again.
use Rattle.coin_safety.proofs.Words.{◌≡◌, ℕ, ◌+◌, ◌<◌, ◌==◌, ◌&&◌, ◌||◌, not, Bool, true, false, if◌then◌else◌, List, [], ◌∷◌, ◌++◌, Option, Some, None, inl, inr, refl, ap, ◌∙◌, subst, arith, is_some, nat_lt, flat_map, list_any, option_map_or, option_or, and_parts, eqb-true, leb-false, ltb-true, not-true, true≢false, RawOpening, SignedTx, Spend, RootCall, Before, Respond, ExitView, CHALLENGE_WINDOW, is_challenged, ShowsTx, Responds, Tests, Rules, is_over, now, accepted_calls_show, some_same, challenge-at, root_at-grown, committed-le, within, IsLegalBy, Has, has-flat_map, Kept, standing, tip, answer_shown, is_answered, before_by, again_for, shown_again}

-- ---- which they are

module _ (log : List RootCall) (account : ℕ) (kept : Kept) where
  -- the call is a Before of the exit by the spend that an answer showed
  pub record IsAgain (exit : ExitView) (call : RootCall) : Type 0 where
    pub spend : RawOpening
    pub above : tip kept < exit.parent
    pub answered : is_answered (tip kept) exit.challenges ≡ true
    pub shown : answer_shown log kept.links.coin (tip kept) exit.block ≡ Some spend
    pub below : spend.block < exit.parent
    pub free : is_challenged spend.block exit.challenges ≡ false
    pub early : now log < exit.start + CHALLENGE_WINDOW
    pub same : Before account kept.links.coin exit.block (Spend spend) ≡ call

  within-has : (time window : ℕ) (one call : RootCall) → Has (within log time window one) call
      → (now log < time + window) × (one ≡ call)
  within-has time window one call h =
      (elim (is_over log time window) as (λ b. is_over log time window ≡ b → Has (if b then [] else one ∷ []) call
      → (now log < time + window) × (one ≡ call)) [
        | true ↦ λ over none. absurd none
        | false ↦ λ early there. elim there [
          | inl same ↦ (leb-false (time + window) (now log) early, same)
          | inr none ↦ absurd none
        ]
      ]) refl h

  before-again : (exit : ExitView) (call : RootCall) (spend : RawOpening) → tip kept < exit.parent
      → is_answered (tip kept) exit.challenges ≡ true
      → answer_shown log kept.links.coin (tip kept) exit.block ≡ Some spend
      → Has (before_by log account kept.links.coin exit spend) call → IsAgain exit call
  before-again exit call spend above answered shown h =
      let one : RootCall = Before account kept.links.coin exit.block (Spend spend) in
      (elim (nat_lt spend.block exit.parent && not (is_challenged spend.block exit.challenges)) as (λ b.
      (nat_lt spend.block exit.parent && not (is_challenged spend.block exit.challenges)) ≡ b
      → Has (if b then within log exit.start CHALLENGE_WINDOW one else []) call → IsAgain exit call) [
        | false ↦ λ other none. absurd none
        | true ↦ λ may there.
            let parts = and_parts (nat_lt spend.block exit.parent) (not (is_challenged spend.block exit.challenges)) may
            in
            let r = within-has exit.start CHALLENGE_WINDOW one call there in
            record {
              spend = spend;
              above = above;
              answered = answered;
              shown = shown;
              below = ltb-true spend.block exit.parent parts.0;
              free = not-true (is_challenged spend.block exit.challenges) parts.1;
              early = r.0;
              same = r.1;
            }
      ]) refl h

  pub again_for-again : (exit : ExitView) (call : RootCall) → Has (again_for log account kept exit) call
      → IsAgain exit call
  again_for-again exit call h =
      let found : Option RawOpening = answer_shown log kept.links.coin (tip kept) exit.block in
      (elim (nat_lt (tip kept) exit.parent && is_answered (tip kept) exit.challenges) as (λ b.
      (nat_lt (tip kept) exit.parent && is_answered (tip kept) exit.challenges) ≡ b
      → Has (if b then option_map_or (before_by log account kept.links.coin exit) found [] else []) call
      → IsAgain exit call) [
        | false ↦ λ other none. absurd none
        | true ↦ λ asks there.
            let parts = and_parts (nat_lt (tip kept) exit.parent) (is_answered (tip kept) exit.challenges) asks in
            (elim found as (λ o. found ≡ o
            → Has (option_map_or (before_by log account kept.links.coin exit) o []) call → IsAgain exit call) [
              | None ↦ λ unseen none. absurd none
              | Some spend ↦ λ seen here. before-again exit call spend
                  (ltb-true (tip kept) exit.parent parts.0) parts.1 seen here
            ]) refl there
      ]) refl h

  pub again-in : (call : RootCall) → Has (shown_again log account kept) call
      → (exit : ExitView) × Has (standing log kept) exit × IsAgain exit call
  again-in call h =
      let r = has-flat_map (again_for log account kept) (standing log kept) call h in
      (r.0, r.1, again_for-again r.0 call r.2)

  flat-none : {X Y : Type 0} (p : X → Bool) (f : X → List Y) (xs : List X) → ((x : X) → p x ≡ false → f x ≡ [])
      → list_any p xs ≡ false → flat_map f xs ≡ []
  flat-none p f [] each none = refl
  flat-none p f (x ∷ xs) each none =
      (elim (p x) as (λ b. p x ≡ b → (b || list_any p xs) ≡ false → f x ++ flat_map f xs ≡ []) [
        | true ↦ λ own wrong. absurd (true≢false wrong)
        | false ↦ λ other rest. ap (λ l. l ++ flat_map f xs) (each x other) ∙ flat-none p f xs each rest
      ]) refl none

  -- where no challenge at the tip was answered
  pub none-again : list_any (λ exit. nat_lt (tip kept) exit.parent && is_answered (tip kept) exit.challenges)
      (standing log kept) ≡ false → shown_again log account kept ≡ []
  none-again none =
      flat-none (λ exit. nat_lt (tip kept) exit.parent && is_answered (tip kept) exit.challenges)
      (again_for log account kept) (standing log kept)
      (λ exit other. ap (λ b. if b then option_map_or (before_by log account kept.links.coin exit)
      (answer_shown log kept.links.coin (tip kept) exit.block) [] else []) other) none

-- ---- what an answer showed

module _ (tests : Tests) (rules : Rules) where
  -- the spend is shown, in a block after the challenged one
  pub record IsShownSpend (log : List RootCall) (c t : ℕ) (o : RawOpening) : Type 0 where
    pub tx : SignedTx
    pub shown : ShowsTx tests rules log c o tx
    pub child : tx.body.parent ≡ t
    pub later : t < o.block

  grown : (log : List RootCall) (call : RootCall) (c t : ℕ) (o : RawOpening) → IsShownSpend log c t o
      → IsShownSpend (call ∷ log) c t o
  grown log call c t o is = record {
    tx = is.tx;
    shown = record {
      root = is.shown.root;
      committed = root_at-grown log call o.block (committed-le log o.block (ap is_some is.shown.committed))
          ∙ is.shown.committed;
      opened = is.shown.opened;
      spelled = is.shown.spelled;
    };
    child = is.child;
    later = is.later;
  }

  answered-now : (log : List RootCall) (c e n : ℕ) (spend : RawOpening) → Responds tests rules log c e n spend
      → IsShownSpend log c n spend
  answered-now log c e n spend s =
      let at = eqb-true s.challenge.block n (challenge-at n s.exit.challenges s.challenge s.there) in
      record {
        tx = s.tx;
        shown = s.shown;
        child = s.child ∙ at;
        later = omega (arith, s.later, at);
      }

  pub answer-shows : (log : List RootCall) (c t b : ℕ) (o : RawOpening) → IsLegalBy tests rules log
      → answer_shown log c t b ≡ Some o → IsShownSpend log c t o
  unfolding answer_shown IsLegalBy
  answer-shows [] c t b o legal is = absurd (cc is)
  answer-shows (Respond account coin exit challenged spend ∷ log) c t b o legal is =
      let call : RootCall = Respond account coin exit challenged spend in
      (elim ((coin == c) && (challenged == t) && (exit == b)) as (λ k.
      ((coin == c) && (challenged == t) && (exit == b)) ≡ k
      → option_or (if k then Some spend else None) (answer_shown log c t b) ≡ Some o
      → IsShownSpend (call ∷ log) c t o) [
        | false ↦ λ other rest. grown log call c t o (answer-shows log c t b o legal.1 rest)
        | true ↦ λ own same.
            let parts = and_parts ((coin == c) && (challenged == t)) (exit == b) own in
            let named = and_parts (coin == c) (challenged == t) parts.0 in
            grown log call c t o
            (subst (λ k. IsShownSpend log k t o) (eqb-true coin c named.0)
            (subst (λ k. IsShownSpend log coin k o) (eqb-true challenged t named.1)
            (subst (IsShownSpend log coin challenged) (some_same spend o same)
            (answered-now log coin exit challenged spend (accepted_calls_show tests rules log call legal.0)))))
      ]) refl is
  answer-shows (call ∷ log) c t b o legal is = grown log call c t o (answer-shows log c t b o legal.1 is)
