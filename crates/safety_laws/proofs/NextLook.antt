-- The next look isn't too late.
use Rattle.safety_laws.proofs.Basics.{◌≡◌, ℕ, ◌+◌, ◌<◌, ◌≤◌, ◌==◌, ◌||◌, Bool, true, false, if◌then◌else◌, List, [], ◌∷◌, ◌++◌, map, Some, inl, inr, refl, sym, ap, ◌∙◌, subst, arith, find, rules, is_none, list_any, Contains, cases_Bool, eq-eqb, eqb-true, not-true, true≢false, common_steps}
use Rattle.safety_laws.proofs.CoinWords.{Owner, RootCall, ChallengeView, ExitView, CHALLENGE_WINDOW, RESPONSE_WINDOW, LAST_TIME, is_challenged, now, Challenge, Exit, exits, challenge_at, challenge_view, exit_view, tests_by, Has, any-map, contains-has, has-filter, has-map, has-flat_map, Kept, Late, after, standing, tip, answer_ends, ends_of, ends, Tells, words_tell}
use Rattle.safety_laws.proofs.WorldWords.{log_of, wallet_owner, seen, collides, is_mine, IsLegal, some_same, one_leaf, legal-log, legal-table, Holding, holding, LegalNextLookIsInTime}
use Rattle.plasma_tx.proofs.Bounds.{times_are_bounded}
use Rattle.safety_laws.proofs.AtLook.{at, others-apart}
use Rattle.safety_laws.proofs.ActLook.{seen-exit}
use Rattle.safety_laws.proofs.Since.{owner-since}
use Rattle.safety_laws.proofs.Timely.{own-answers, others-open}
use Rattle.safety_laws.proofs.OwnTips.{own-at-tip}
use Rattle.safety_laws.proofs.SafeWords.{Goes, look-goes}

any-none-at : {X : Type 0} (p : X → Bool) (xs : List X) → is_none (find p xs) ≡ false → list_any p xs ≡ true
any-none-at p [] some = absurd (true≢false some)
any-none-at p (x ∷ xs) some =
    (elim (p x) as (λ b. is_none (if b then Some x else find p xs) ≡ false → (b || list_any p xs) ≡ true) [
      | true ↦ λ here. refl
      | false ↦ λ rest. any-none-at p xs rest
    ]) some

view-challenged : (block : ℕ) (x : Exit) → is_none (challenge_at block x.challenges) ≡ false
    → is_challenged block (map challenge_view x.challenges) ≡ true
view-challenged block x some =
    any-map challenge_view (λ (v : ChallengeView). v.block == block) x.challenges
    ∙ any-none-at (λ (ch : Challenge). ch.block == block) x.challenges some

after-more : (time seconds clock : ℕ) → clock < time + seconds → clock ≤ LAST_TIME → clock < after time seconds
after-more time seconds clock less small = omega arith

-- ---- no window ended

module _ (log : List RootCall) (kept : Kept) (c e : ℕ) (clock : ℕ) (c_is : kept.links.coin ≡ c) (e_is : tip kept ≡ e)
    (small : clock ≤ LAST_TIME)
    (windows : (x : Exit) → Has (exits log) x → x.coin ≡ c → (x.block == e) ≡ false
    → is_none (challenge_at e x.challenges) ≡ true → clock < x.start + CHALLENGE_WINDOW)
    (answers : (x : Exit) → Has (exits log) x → x.coin ≡ c → x.block ≡ e → (ch : Challenge) → Has x.challenges ch
    → ch.answered ≡ false → clock < ch.at + RESPONSE_WINDOW) where
  answer-ahead : (x : Exit) → Has (exits log) x → x.coin ≡ c → x.block ≡ e → (end : ℕ)
      → Has (answer_ends (map challenge_view x.challenges)) end → clock < end
  answer-ahead x there own at_tip end has = grind (arith, common_steps, has-map, has-filter, not-true, after-more)

  exit-ahead : (x : Exit) → Has (exits log) x → x.coin ≡ c → (end : ℕ) → Has (ends_of e (exit_view x)) end
      → clock < end
  exit-ahead x there own end =
      grind (arith, common_steps, answer-ahead, eqb-true, cases_Bool, view-challenged, after-more)

  all-ahead : (end : ℕ) → Contains (ends log kept) end → clock < end
  all-ahead end among =
      let r = has-flat_map (ends_of (tip kept)) (standing log kept) end (contains-has (ends log kept) end among) in
      let s = seen-exit log kept.links.coin r.0 r.1 in
      exit-ahead s.x s.there (s.c_is ∙ c_is) end
      (subst (λ n. Has (ends_of n (exit_view s.x)) end) e_is
      (subst (λ (v : ExitView). Has (ends_of (tip kept) v) end) (sym s.view_is) r.2))

pub next_look_is_in_time : LegalNextLookIsInTime
unfolding collides
next_look_is_in_time dig rules later events n w c e account clock kept m other time since again digest legal look
    covers next word =
    let log : List RootCall = log_of (later ++ events) in
    let t : Tells log other time again (Late since) = subst (Tells log other time again) word (words_tell log other time
    again) in
    let less = all-ahead log again c e (now log) next.coin_is next.tip_is
    (times_are_bounded rules log (legal-table (tests_by dig) rules log (legal-log (tests_by dig) rules
    (later ++ events) legal))).0
    windows answers since t.1.among in
    absurd (omega (arith, less, t.2))
  where
    log : List RootCall
    log = log_of (later ++ events)

    g : Goes later events w c e
    g = look-goes dig digest rules later events n w c e account clock kept legal look covers

    h : Holding (later ++ events) w c e
    h = holding (later ++ events) w c e next.held

    whole : IsLegal (tests_by dig) rules (g.after ++ g.base)
    whole = subst (IsLegal (tests_by dig) rules) g.all_is legal

    owner : wallet_owner (later ++ events) w ≡ Some g.me
    owner = ap (λ l. wallet_owner l w) g.all_is
        ∙ owner-since (tests_by dig) rules g.base g.after w g.me whole g.me_is

    mine-same : h.me ≡ g.me
    mine-same = some_same h.me g.me (sym h.me_is ∙ owner)

    at-same : (at dig digest rules (later ++ events) m w c e other again legal next).hold.me ≡ g.me
    at-same = some_same (at dig digest rules (later ++ events) m w c e other again legal next).hold.me g.me
        (sym (at dig digest rules (later ++ events) m w c e other again legal next).hold.me_is ∙ owner)

    there-too : (x : Exit) → Has (exits (log_of (later ++ events))) x → Has (exits (log_of (g.after ++ g.base))) x
    there-too x there = subst (λ l. Has (exits (log_of l)) x) g.all_is there

    windows : (x : Exit) → Has (exits log) x → x.coin ≡ c → (x.block == e) ≡ false
        → is_none (challenge_at e x.challenges) ≡ true → now log < x.start + CHALLENGE_WINDOW
    windows x there c_is apart free =
        elim (cases_Bool (is_mine g.me x)) [
          | inl mine ↦ absurd (true≢false (sym (eq-eqb x.block e
              (own-at-tip (tests_by dig) rules (λ tx owner is. is) (later ++ events) w c e legal
              (one_leaf dig digest log c (seen (later ++ events) c) next.whole) next.honest h x there c_is
              (ap (λ (o : Owner). is_mine o x) mine-same ∙ mine))) ∙ apart))
          | inr others ↦ elim (others-open (tests_by dig) rules g.base w c e g.me g.me_is (now log) g.stands g.after
              whole g.goes x (there-too x there) c_is others) [
                | inl challenged ↦ absurd (true≢false (sym free ∙ challenged))
                | inr less ↦ less
              ]
        ]

    answers : (x : Exit) → Has (exits log) x → x.coin ≡ c → x.block ≡ e → (ch : Challenge) → Has x.challenges ch
        → ch.answered ≡ false → now log < ch.at + RESPONSE_WINDOW
    answers x there c_is at_tip ch has still =
        elim (cases_Bool (is_mine g.me x)) [
          | inl mine ↦ own-answers (tests_by dig) rules g.base w c e g.me g.me_is (now log) g.stands g.after whole
              g.goes x (there-too x there) c_is at_tip mine ch has still
          | inr others ↦ absurd (others-apart dig digest rules (later ++ events) m w c e other again legal next x
              there c_is (ap (λ (o : Owner). is_mine o x) at-same ∙ others) at_tip)
        ]
