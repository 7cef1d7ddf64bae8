-- No challenge at the tip of a coin that a wallet keeps is answered.
use Rattle.money_laws.proofs.Basics.{◌≡◌, ℕ, true, false, List, [], ◌∷◌, inl, inr, refl, sym, ap, ◌∙◌, subst, arith, rules, is_some, AllByRecursion, common_steps}
use Rattle.money_laws.proofs.CoinWords.{RawOpening, Shown, RootCall, Before, Respond, is_challenged_at, Challenge, Exit, exits, block_of, challenge_at, with_challenge, with_answer, new_challenge, Tests, Rules, tests_by, rules_of, answer_to, is_accepted, accepted_calls_show, new_challenges_are_open, responds_answer, all-append, each-exit, Has, all-has, contains-has}
use Rattle.money_laws.proofs.WorldWords.{IsDigest, Event, Joins, log_of, wallet_owner, bound_by, openings_of, seen, strings_of, has_clash, collides, forges_one, is_forged, holds, IsLegal, some_same, all-from, all-changed, all-answered, found-has, challenge-has, IsShownChallenge, seen-call, legal-log, legal-table, SignsBy, none-before, forged-parts, legal-before, legal-to, of_held, own-openings, IsSpend, is_spend, keeps, HoldersKeep, LegalTipsAreNotAnswered, LegalTipsStayOpen, TipsStayOpen, TipsAreNotAnswered}
use Rattle.plasma_tx.specs.Accepted.{Challenges, Responds}
use Rattle.watch_duty.specs.Laws.{openings_of_call}
use Rattle.money_laws.proofs.Keeping.{Keeping, keeping, KeptBefore, kept_before, AtTip, at_tip, keeper-owns, tip-kept}

pub holders_keep : HoldersKeep
unfolding holds keeps
holders_keep events w c e = grind (arith, common_steps)

-- the challenges of the exit at e are open, where it is of coin c
abbrev pub IsOpenAt : ℕ → ℕ → Exit → Type 0
IsOpenAt c e x = x.coin ≡ c → AllByRecursion (λ ch. ch.block ≡ e → ch.answered ≡ false) x.challenges

abbrev pub AllOpenAt : ℕ → ℕ → List Exit → Type 0
AllOpenAt c e xs = AllByRecursion (IsOpenAt c e) xs

pushed-open : (c e : ℕ) (x : Exit) (new : Challenge) → is_some (challenge_at new.block x.challenges) ≡ false
    → new.answered ≡ false → IsOpenAt c e x → IsOpenAt c e (with_challenge new x)
pushed-open c e x new none unanswered was = grind (arith, common_steps, all-append)

module _ (tests : Tests) (rules : Rules) (signs : SignsBy tests) (events : List Event) (w c e : ℕ)
    (legal : IsLegal tests rules events) (more : List RawOpening) (at : AtTip tests rules events w c e more) where
  -- an answer of a challenge at e would spend the tip
  pub no-answer : (account k f challenged : ℕ) (spend : RawOpening)
      → ((o : RawOpening) → Has (openings_of_call c (Respond account k f challenged spend)) o → Has more o)
      → forges_one rules.tag (wallet_owner events w) (bound_by events w) c
      (openings_of_call c (Respond account k f challenged spend)) ≡ false
      → Responds tests rules (log_of events) k f challenged spend → k ≡ c → challenged ≡ e → ⊥
  no-answer account k f challenged spend has none is c_is at_tip =
      let log : List RootCall = log_of events in
      let place = found-has log k f is.exit is.stands in
      let of = of_held tests rules events w c e at.keep.me legal at.held is.exit place.0 (place.1 ∙ c_is) in
      let h = challenge-has challenged is.exit.challenges is.challenge is.there in
      let known = all-has
      (IsShownChallenge tests rules log (seen events c) c at.held.made is.exit.parent is.exit.start)
      is.exit.challenges is.challenge of.challenges h.0 in
      let spent = is_spend tests rules log k spend is.tx is.challenge.block is.challenge.owner is.shown is.child
      is.later is.signed in
      let here = own-openings k c (spend ∷ []) spend c_is (inl refl) in
      let ch_tip : is.challenge.block ≡ e = h.1 ∙ at_tip in
      tip-kept tests rules signs events w c e more at (openings_of_call c (Respond account k f challenged spend)) none
      spend here (has spend here) is.challenge.block is.challenge.owner
      (subst (λ z. IsSpend tests rules log z spend is.challenge.block is.challenge.owner) c_is spent) ch_tip
      (keeper-owns tests rules signs events w c e more at is.challenge.owner is.challenge.block known.shown ch_tip)

  opened-Before : (account k f : ℕ) (shown : Shown) → Challenges tests rules (log_of events) account k f shown
      → AllOpenAt c e (exits (log_of events)) → AllOpenAt c e (exits (Before account k f shown ∷ log_of events))
  unfolding exits
  opened-Before account k f shown is all =
      let log : List RootCall = log_of events in
      let new : Challenge = new_challenge log account k f shown in
      let by = responds_answer rules log (legal-table tests rules log (legal-log tests rules events legal)) in
      all-changed (IsOpenAt c e) log k f (with_challenge new)
      (λ x found was.
      let same : is.exit ≡ x = some_same is.exit x (sym is.stands ∙ found) in
      let none : is_some (challenge_at (block_of shown) x.challenges) ≡ false =
      ap (λ (y : Exit). is_some (challenge_at (block_of shown) y.challenges)) (sym same) ∙ ap is_some is.none_there in
      let unanswered : new.answered ≡ false = new_challenges_are_open log k f (block_of shown) by
      (ap is_some found) (ap (is_challenged_at (block_of shown)) found ∙ none) in
      pushed-open c e x new none unanswered was)
      all

  opened-Respond : (account k f challenged : ℕ) (spend : RawOpening)
      → ((o : RawOpening) → Has (openings_of_call c (Respond account k f challenged spend)) o → Has more o)
      → forges_one rules.tag (wallet_owner events w) (bound_by events w) c
      (openings_of_call c (Respond account k f challenged spend)) ≡ false
      → Responds tests rules (log_of events) k f challenged spend → AllOpenAt c e (exits (log_of events))
      → AllOpenAt c e (exits (Respond account k f challenged spend ∷ log_of events))
  unfolding exits
  opened-Respond account k f challenged spend has none is all =
      let log : List RootCall = log_of events in
      all-changed (IsOpenAt c e) log k f (with_answer challenged)
      (λ x found was c_is.
      let place = found-has log k f x found in
      all-answered (λ ch. ch.block ≡ e → ch.answered ≡ false) challenged x.challenges
      (λ ch names was_open at_tip. absurd (no-answer account k f challenged spend has none is (sym place.1 ∙ c_is)
      (sym names ∙ at_tip)))
      (was c_is))
      all

  -- every accepted call
  opened-call : (call : RootCall) → ((o : RawOpening) → Has (openings_of_call c call) o → Has more o)
      → forges_one rules.tag (wallet_owner events w) (bound_by events w) c (openings_of_call c call) ≡ false
      → is_accepted (answer_to tests rules (log_of events) call) ≡ true → AllOpenAt c e (exits (log_of events))
      → AllOpenAt c e (exits (call ∷ log_of events))
  opened-call (Before account k f shown) has none is all =
      opened-Before account k f shown
      (accepted_calls_show tests rules (log_of events) (Before account k f shown) is) all
  opened-call (Respond account k f challenged spend) has none is all =
      opened-Respond account k f challenged spend has none
      (accepted_calls_show tests rules (log_of events) (Respond account k f challenged spend) is) all
  opened-call (RootCall.StartDeposit account k block) has none is all =
      each-exit (IsOpenAt c e) (log_of events) (RootCall.StartDeposit account k block) (λ c_is. tt) tt all
  opened-call (RootCall.StartSpend account k parent exit) has none is all =
      each-exit (IsOpenAt c e) (log_of events) (RootCall.StartSpend account k parent exit) (λ c_is. tt) tt all
  opened-call call has none is all = each-exit (IsOpenAt c e) (log_of events) call tt tt all

module _ (dig : List ℕ → List ℕ) (digest : IsDigest dig) (rules : Rules) (w c e : ℕ) where
  opened-event : (event : Event) (events : List Event) → IsLegal (tests_by dig) rules (event ∷ events)
      → has_clash dig (strings_of dig c (seen (event ∷ events) c)) ≡ false
      → is_forged rules.tag (event ∷ events) w c ≡ false → Keeping events w c e
      → AllOpenAt c e (exits (log_of events)) → AllOpenAt c e (exits (log_of (event ∷ events)))
  unfolding log_of IsLegal openings_of
  opened-event (Joins call) events legal none unforged h all =
      opened-call (tests_by dig) rules (λ tx owner is. is) events w c e legal.1 (seen (Joins call ∷ events) c)
      (at_tip dig digest rules w c e (Joins call) events legal.1 none h) call (seen-call call events c)
      (forged-parts rules.tag (Joins call) events w c unforged).0 legal.0.accepted all
  opened-event event events legal none unforged h all = all

  -- while it is kept, each challenge at the tip is open
  pub opened : (events : List Event) → IsLegal (tests_by dig) rules events
      → has_clash dig (strings_of dig c (seen events c)) ≡ false → is_forged rules.tag events w c ≡ false
      → Keeping events w c e → AllOpenAt c e (exits (log_of events))
  unfolding exits log_of
  opened [] legal none unforged h = tt
  opened (event ∷ events) legal none unforged h =
      later (kept_before (tests_by dig) rules event events w c e legal h)
      (λ g. opened events (legal-before (tests_by dig) rules event events legal) (none-before dig event events c none)
      (forged-parts rules.tag event events w c unforged).1 g)
    where
      later : KeptBefore event events w c e
          → (Keeping events w c e → AllOpenAt c e (exits (log_of events)))
          → AllOpenAt c e (exits (log_of (event ∷ events)))
      later (inr new) before =
          all-from (IsOpenAt c e) (exits (log_of (event ∷ events))) (λ x there c_is. absurd (new x there c_is))
      later (inl g) before = opened-event event events legal none unforged g (before g)

pub tips_are_not_answered : LegalTipsAreNotAnswered
unfolding collides IsLegal openings_of
tips_are_not_answered dig rules events w c e account block spend digest legal keeper =
    let call : RootCall = Respond account c block e spend in
    no-answer (tests_by dig) rules (λ tx owner is. is) events w c e legal.1 (seen (Joins call ∷ events) c)
    (at_tip dig digest rules w c e (Joins call) events legal.1 keeper.whole (keeping events w c e keeper.kept))
    account c block e spend (seen-call call events c)
    (forged-parts rules.tag (Joins call) events w c keeper.honest).0
    (accepted_calls_show (tests_by dig) rules (log_of events) call legal.0.accepted) refl refl

pub tips_stay_open : LegalTipsStayOpen
unfolding collides
tips_stay_open dig rules events w c e digest legal kept none unforged exit challenge there c_is has at_tip =
    all-has (λ (ch : Challenge). ch.block ≡ e → ch.answered ≡ false) exit.challenges challenge
    (all-has (IsOpenAt c e) (exits (log_of events)) exit
    (opened dig digest rules w c e events legal none unforged (keeping events w c e kept))
    (contains-has (exits (log_of events)) exit there) c_is)
    (contains-has exit.challenges challenge has) at_tip

pub run_tips_stay_open : TipsStayOpen
run_tips_stay_open dig lines run world later events w c e is split =
    tips_stay_open dig (rules_of world.chain) events w c e is.digest
    (legal-to dig lines run world later events is split)

pub run_tips_are_not_answered : TipsAreNotAnswered
run_tips_are_not_answered dig lines run world later events w c e account block spend is split =
    tips_are_not_answered dig (rules_of world.chain) events w c e account block spend is.digest
    (legal-to dig lines run world later (Joins (Respond account c block e spend) ∷ events) is split)
