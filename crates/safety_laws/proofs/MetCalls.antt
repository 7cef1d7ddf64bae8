-- What stands where the calls that were due at a look were met.
use Rattle.safety_laws.proofs.Basics.{◌≡◌, ◌⊎◌, ℕ, ◌+◌, ◌<◌, ◌==◌, true, false, List, ◌++◌, Some, None, inl, inr, sym, ap, ◌∙◌, subst, arith, rules, is_none, list_any, cases_Bool, ne_eqb, eq-eqb, true≢false, common_steps}
use Rattle.safety_laws.proofs.CoinWords.{Owner, RootCall, After, Between, Before, Respond, CHALLENGE_WINDOW, RESPONSE_WINDOW, is_end, is_respond, now, Challenge, Exit, exits, exits_of, exit_view, challenge_at, block_of, Rules, tests_by, tip_shown, due_for, due_of, Has, IsDue, DueAfter, DueBetween, DueBefore, DueRespond, due_for-due, Kept, tip, due, AreAhead}
use Rattle.safety_laws.proofs.WorldWords.{IsDigest, Event, log_of, is_mine, IsLegal, is_before, fulfils, passes-has, any-either, has-in-flat_map, IsLook, begins_own, are_met}
use Rattle.safety_laws.proofs.AtLook.{standing-has, ahead-window, ahead-answer, at, look-shown, others-apart, others-seen, tip-seen, StandsTill}
use Rattle.safety_laws.proofs.Since.{IsOld, WasOpenThen, IsShut, from-look, own-shut}

module _ (dig : List ℕ → List ℕ) (digest : IsDigest dig) (rules : Rules) (within events : List Event)
    (n w c e account : ℕ) (kept : Kept) (before : IsLegal (tests_by dig) rules events)
    (legal : IsLegal (tests_by dig) rules (within ++ events)) (look : IsLook dig rules events n w c e kept)
    (unsent : kept.sent ≡ None) (ahead : AreAhead (log_of events) (now (log_of events)) kept)
    (met : are_met (log_of within) (due (log_of events) account kept) ≡ true) where
  abbrev Me : Owner
  Me = (at dig digest rules events n w c e account kept before look).hold.me

  -- a call that was due was met
  met-one : (call : RootCall) → Has (due_of (log_of events) account (record { links = kept.links })) call
      → list_any (fulfils call) (log_of within) ≡ true
  met-one call has = grind (arith, common_steps, passes-has)

  module _ (y : Exit) (c_is : y.coin ≡ c) (o : IsOld (log_of within) events y) where
    own : o.y.coin ≡ kept.links.coin
    own = o.coin ∙ c_is ∙ sym look.coin_is

    not-ended : list_any (is_end kept.links.coin o.y.block) (log_of within) ≡ true → ⊥
    not-ended some =
        true≢false (sym some
        ∙ (λ i. list_any (is_end ((look.coin_is ∙ sym c_is) i) (o.block i)) (log_of within)) ∙ o.unended)

    -- what was due for the exit was met, so it is challenged at the tip
    due-met : is_none (challenge_at e y.challenges) ≡ true → (o.y.block ≡ e → ⊥) → (call : RootCall)
        → IsDue (log_of events) account kept.links (exit_view o.y) call
        → Has (due_of (log_of events) account (record { links = kept.links })) call → ⊥
    due-met free apart call (DueAfter link next early same) has =
        not-ended (met-one (After account kept.links.coin o.y.block link.opening)
        (subst (λ k. Has (due_of (log_of events) account (record { links = kept.links })) k) (sym same) has))
    due-met free apart call (DueBetween link above next early same) has =
        not-ended (met-one (Between account kept.links.coin o.y.block link.opening)
        (subst (λ k. Has (due_of (log_of events) account (record { links = kept.links })) k) (sym same) has))
    due-met free apart call (DueBefore above unchallenged early same) has =
        elim (any-either (is_end kept.links.coin o.y.block)
        (is_before kept.links.coin o.y.block (block_of (tip_shown kept.links))) (log_of within)
        (met-one (Before account kept.links.coin o.y.block (tip_shown kept.links))
        (subst (λ k. Has (due_of (log_of events) account (record { links = kept.links })) k) (sym same) has))) [
          | inl ended ↦ not-ended ended
          | inr challenged ↦
              let at_tip = look-shown dig digest rules events n w c e account kept before look
              (at dig digest rules events n w c e account kept before look).hold.me
              (at dig digest rules events n w c e account kept before look).held in
              true≢false (sym free ∙ o.met e
              ((λ i. list_any (is_before ((sym (look.coin_is ∙ sym c_is)) i) (sym o.block i) (sym at_tip i))
              (log_of within)) ∙ challenged))
        ]
    due-met free apart call (DueRespond ch link at_tip has_ch still next early same) has = apart (at_tip ∙ look.tip_is)

    -- another's exit that stood at the look is challenged at the tip
    old-challenged : is_mine Me y ≡ false → is_none (challenge_at e y.challenges) ≡ true → ⊥
    old-challenged other free =
        let mine = (λ i. (o.account i) == Me.account) ∙ other in
        let apart : o.y.block ≡ e → ⊥ =
        others-apart dig digest rules events n w c e account kept before look o.y o.there (o.coin ∙ c_is) mine in
        elim (cases_Bool (is_none (challenge_at e o.y.challenges))) [
          | inr challenged ↦ true≢false (sym free ∙ o.challenged e challenged)
          | inl none ↦ elim (others-seen dig digest rules events n w c e account kept before look o.y o.there
              (o.coin ∙ c_is) mine
              (ahead-window (log_of events) (now (log_of events)) kept ahead o.y o.there own
              (ap (λ b. o.y.block == b) look.tip_is ∙ ne_eqb o.y.block e apart)
              (ap (λ b. is_none (challenge_at b o.y.challenges)) look.tip_is ∙ none))) [
                | inl found ↦ due-met free apart found.0
                    (due_for-due (log_of events) account kept.links (exit_view o.y) found.0 found.1)
                    (has-in-flat_map (due_for (log_of events) account kept.links) (exits_of (log_of events)
                    kept.links.coin)
                    (exit_view o.y) found.0 (standing-has (log_of events) kept o.y o.there own) found.1)
                | inr challenged ↦ true≢false (sym free ∙ o.challenged e challenged)
              ]
        ]

    -- an open challenge of the exit at the tip was met
    old-answered : y.block ≡ e → (ch : Challenge) → WasOpenThen (log_of within) y o.y ch → ⊥
    old-answered at_tip ch old =
        let place = o.block ∙ at_tip in
        let found = tip-seen dig digest rules events n w c e account kept before look o.y o.there (o.coin ∙ c_is) place
        old.old old.there old.still
        (ahead-answer (log_of events) (now (log_of events)) kept ahead o.y o.there own
        (eq-eqb o.y.block (tip kept) (place ∙ sym look.tip_is)) old.old old.there old.still) in
        elim (any-either (is_end kept.links.coin o.y.block) (is_respond kept.links.coin o.y.block old.old.block)
        (log_of within)
        (met-one (Respond account kept.links.coin o.y.block old.old.block found.0.opening) found.1)) [
          | inl ended ↦ not-ended ended
          | inr answered ↦ grind (arith, common_steps, true≢false)
        ]

  -- so nothing goes wrong after that
  pub met-stands : (end : ℕ)
      → (end < now (log_of events) + RESPONSE_WINDOW)
      ⊎ ((end < now (log_of events) + CHALLENGE_WINDOW) × IsShut events Me c e
      × (list_any (begins_own (Some Me) c e) within ≡ false))
      → StandsTill (within ++ events) c e Me end
  met-stands end goes = record {
    others = λ y there c_is other. elim (cases_Bool (is_none (challenge_at e y.challenges))) [
      | inr challenged ↦ inl challenged
      | inl free ↦ elim (from-look (tests_by dig) rules events within legal y there) [
        | inl o ↦ absurd (old-challenged y c_is o other free)
        | inr b ↦ inr (omega (arith, b.start, bound goes))
      ]
    ];
    tips = λ y there c_is at_tip mine ch has still.
        tip-stands goes y there c_is at_tip mine ch has still;
  }
    where
      bound : (end < now (log_of events) + RESPONSE_WINDOW)
          ⊎ ((end < now (log_of events) + CHALLENGE_WINDOW) × IsShut events Me c e
          × (list_any (begins_own (Some Me) c e) within ≡ false))
          → end < now (log_of events) + CHALLENGE_WINDOW
      bound (inl less) = omega (arith, less)
      bound (inr r) = r.0

      tip-stands : (end < now (log_of events) + RESPONSE_WINDOW)
          ⊎ ((end < now (log_of events) + CHALLENGE_WINDOW) × IsShut events Me c e
          × (list_any (begins_own (Some Me) c e) within ≡ false))
          → (y : Exit) → Has (exits (log_of (within ++ events))) y → y.coin ≡ c → y.block ≡ e
          → is_mine Me y ≡ true → (ch : Challenge) → Has y.challenges ch → ch.answered ≡ false
          → end < ch.at + RESPONSE_WINDOW
      tip-stands (inl less) y there c_is at_tip mine ch has still =
          elim (from-look (tests_by dig) rules events within legal y there) [
            | inl o ↦ grind (arith, common_steps, old-answered)
            | inr b ↦ omega (arith, b.opened ch has still, less)
          ]
      tip-stands (inr r) y there c_is at_tip mine ch has still = grind (arith, common_steps, own-shut, old-answered)
