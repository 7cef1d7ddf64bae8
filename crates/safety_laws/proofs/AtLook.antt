-- What a look shows: of each standing exit of the coin, a call is due for it, or it does no harm yet.
use Rattle.safety_laws.proofs.Basics.{◌≡◌, ◌⊎◌, ℕ, ◌+◌, ◌<◌, ◌==◌, not, Bool, true, false, if◌then◌else◌, List, [], ◌∷◌, map, Some, inl, inr, refl, sym, ap, ◌∙◌, subst, arith, filter, is_none, cases_Bool, cases_eq, ne_eqb, eq-eqb, true≢false, not_from_false}
use Rattle.safety_laws.proofs.CoinWords.{Owner, SignedTx, Link, RootCall, Respond, ChallengeView, ExitView, CHALLENGE_WINDOW, RESPONSE_WINDOW, is_challenged, tip_of, is_signed_by, now, Challenge, Exit, exits, challenge_at, challenge_view, exit_view, exits_of, block_of, Tests, Rules, tests_by, due_for, due_of, tip_shown, Has, all-has, any-map, has-contains, has-flat_map, Kept, later, standing, tip, answer_ends, ends_of, ends, AreAhead, NothingIsDue}
use Rattle.safety_laws.proofs.WorldWords.{IsDigest, Event, Idle, log_of, wallet_owner, openings_of, seen, strings_of, has_clash, collides, is_mine, IsLegal, some_same, has-kept, none-any, has-in-flat_map, one_leaf, Deposited, Transferred, IsBegun, OfDeposit, OfSpend, IsKept, holding, HeldAt, IsGoodGuard, has-mapped, OffersDue, shows-kept, kept-some, history-good, at_event, AtEvent, OfHeld, of_held, owner-before, others-due, mine-due, IsKeptBy, IsLook}
use Rattle.plasma_tx.specs.declared.links.Links.{Links}
use Rattle.coin_history.specs.declared.bundle.Bundle.{Bundle}
use Rattle.safety_laws.proofs.Unspent.{IsUnspent, unspent_exits}

-- ---- lists

-- a standing exit of the coin is seen in the views
pub standing-has : (log : List RootCall) (kept : Kept) (x : Exit) → Has (exits log) x → x.coin ≡ kept.links.coin
    → Has (standing log kept) (exit_view x)
unfolding exits_of
standing-has log kept x there c_is =
    has-mapped exit_view (filter (λ exit. exit.coin == kept.links.coin) (exits log)) x
    (has-kept (λ (exit : Exit). exit.coin == kept.links.coin) (exits log) x there
    (eq-eqb x.coin kept.links.coin c_is))

-- it isn't challenged in its view, where it isn't
pub view-unchallenged : (block : ℕ) (x : Exit) → is_none (challenge_at block x.challenges) ≡ true
    → is_challenged block (map challenge_view x.challenges) ≡ false
view-unchallenged block x none =
    any-map challenge_view (λ (v : ChallengeView). v.block == block) x.challenges
    ∙ none-any (λ (ch : Challenge). ch.block == block) x.challenges none

-- ---- the ends of windows

-- the end of the window of an exit that isn't of the tip, and isn't challenged there
pub window-ends : (log : List RootCall) (kept : Kept) (x : Exit) → Has (exits log) x → x.coin ≡ kept.links.coin
    → (x.block == tip kept) ≡ false → is_none (challenge_at (tip kept) x.challenges) ≡ true
    → Has (ends log kept) (later x.start CHALLENGE_WINDOW)
window-ends log kept x there c_is apart none =
    has-in-flat_map (ends_of (tip kept)) (standing log kept) (exit_view x) (later x.start CHALLENGE_WINDOW)
    (standing-has log kept x there c_is)
    (subst (λ (b : Bool). Has (if b then answer_ends (map challenge_view x.challenges)
    else if is_challenged (tip kept) (map challenge_view x.challenges) then []
    else later x.start CHALLENGE_WINDOW ∷ []) (later x.start CHALLENGE_WINDOW)) (sym apart)
    (subst (λ (b : Bool). Has (if b then [] else later x.start CHALLENGE_WINDOW ∷ [])
    (later x.start CHALLENGE_WINDOW)) (sym (view-unchallenged (tip kept) x none)) (inl refl)))

-- the end of the time in which an open challenge of the exit at the tip is to be answered
pub answer-ends : (log : List RootCall) (kept : Kept) (x : Exit) → Has (exits log) x → x.coin ≡ kept.links.coin
    → (x.block == tip kept) ≡ true → (ch : Challenge) → Has x.challenges ch → ch.answered ≡ false
    → Has (ends log kept) (later ch.at RESPONSE_WINDOW)
answer-ends log kept x there c_is at ch has still =
    has-in-flat_map (ends_of (tip kept)) (standing log kept) (exit_view x) (later ch.at RESPONSE_WINDOW)
    (standing-has log kept x there c_is)
    (subst (λ (b : Bool). Has (if b then answer_ends (map challenge_view x.challenges)
    else if is_challenged (tip kept) (map challenge_view x.challenges) then []
    else later x.start CHALLENGE_WINDOW ∷ []) (later ch.at RESPONSE_WINDOW)) (sym at)
    (has-mapped (λ (v : ChallengeView). later v.at RESPONSE_WINDOW)
    (filter (λ (v : ChallengeView). not v.answered) (map challenge_view x.challenges)) (challenge_view ch)
    (has-kept (λ (v : ChallengeView). not v.answered) (map challenge_view x.challenges) (challenge_view ch)
    (has-mapped challenge_view x.challenges ch has) (not_from_false ch.answered still))))

later-less : (time seconds clock : ℕ) → clock < later time seconds → clock < time + seconds
later-less time seconds clock less = omega arith

pub ahead-window : (log : List RootCall) (clock : ℕ) (kept : Kept) → AreAhead log clock kept → (x : Exit)
    → Has (exits log) x → x.coin ≡ kept.links.coin → (x.block == tip kept) ≡ false
    → is_none (challenge_at (tip kept) x.challenges) ≡ true → clock < x.start + CHALLENGE_WINDOW
ahead-window log clock kept ahead x there c_is apart none =
    later-less x.start CHALLENGE_WINDOW clock (ahead (later x.start CHALLENGE_WINDOW)
    (has-contains (ends log kept) (later x.start CHALLENGE_WINDOW) (window-ends log kept x there c_is apart none)))

pub ahead-answer : (log : List RootCall) (clock : ℕ) (kept : Kept) → AreAhead log clock kept → (x : Exit)
    → Has (exits log) x → x.coin ≡ kept.links.coin → (x.block == tip kept) ≡ true → (ch : Challenge)
    → Has x.challenges ch → ch.answered ≡ false → clock < ch.at + RESPONSE_WINDOW
ahead-answer log clock kept ahead x there c_is at ch has still =
    later-less ch.at RESPONSE_WINDOW clock (ahead (later ch.at RESPONSE_WINDOW)
    (has-contains (ends log kept) (later ch.at RESPONSE_WINDOW) (answer-ends log kept x there c_is at ch has still)))

-- ---- the look

-- what a node keeps is a history
pub record Keeps (tests : Tests) (rules : Rules) (events : List Event) (kept : Kept) (bundle : Bundle) : Type 0 where
  pub is : IsKept tests rules events bundle
  pub links_are : is.links ≡ kept.links
  pub coin_is : bundle.coin ≡ kept.links.coin
  pub tip_is : bundle.tip ≡ tip kept

pub keeps_it : (tests : Tests) (rules : Rules) (events : List Event) (n : ℕ) (kept : Kept) → IsLegal tests rules events
    → (by : IsKeptBy rules events n kept) → Keeps tests rules events kept by.bundle
keeps_it tests rules events n kept legal by =
    let k = shows-kept tests rules events n by.bundle legal (wallet_owner events n) by.shows in
    let same : k.links ≡ kept.links =
    some_same k.links kept.links (ap (λ (l : Links). Some l) k.history.shown
    ∙ sym (kept-some rules (log_of events) by.bundle k.history.made k.history.coin) ∙ by.links_are) in
    record {
      is = k;
      links_are = same;
      coin_is = ap (λ (l : Links). l.coin) (sym k.history.shown ∙ same);
      tip_is = sym k.history.tip ∙ ap tip_of same;
    }

module _ (dig : List ℕ → List ℕ) (digest : IsDigest dig) (rules : Rules) (events : List Event) (n w c e account : ℕ)
    (kept : Kept) (legal : IsLegal (tests_by dig) rules events) (look : IsLook dig rules events n w c e kept) where
  whole : has_clash dig (strings_of dig c (seen events c)) ≡ false
  unfolding collides
  whole = look.whole

  -- what is due by the look has all that is due for the held coin
  look-offers : (me : Owner) (held : HeldAt (tests_by dig) rules events w c e me)
      → OffersDue (tests_by dig) rules events c held.made e
      (due_of (log_of events) account (record { links = kept.links }))
  look-offers me held =
      let k = keeps_it (tests_by dig) rules events n kept legal look.keeps in
      let g = history-good (tests_by dig) rules (log_of events) (seen events) c held.made e
      (one_leaf dig digest (log_of events) c (seen events c) whole) held.made_is look.keeps.bundle
      (k.coin_is ∙ look.coin_is) (k.tip_is ∙ look.tip_is) k.is.links k.is.history k.is.is_seen in
      let same : g.links ≡ kept.links =
      some_same g.links kept.links (sym g.kept ∙ look.keeps.links_are) in
      record {
        account = account;
        links = kept.links;
        good = subst (IsGoodGuard (tests_by dig) rules (log_of events) (seen events c) c held.made e) same g.good;
        shown_is = ap (λ (l : Links). block_of (tip_shown l)) (sym same) ∙ g.shown_is;
        due = λ call h. h;
      }

  -- what shows the tip is at it
  pub look-shown : (me : Owner) → HeldAt (tests_by dig) rules events w c e me
      → block_of (tip_shown kept.links) ≡ e
  unfolding look-offers
  look-shown me held = (look-offers me held).shown_is

  idle-whole : has_clash dig (strings_of dig c (seen (Idle ∷ events) c)) ≡ false
  unfolding seen openings_of
  idle-whole = whole

  pub at : AtEvent (tests_by dig) rules events w c e (seen (Idle ∷ events) c)
  at = at_event dig digest rules w c e Idle events legal idle-whole (holding events w c e look.held)

  signs : (tx : SignedTx) (owner : Owner) → (tests_by dig).is_signed tx owner ≡ true → is_signed_by tx owner ≡ true
  signs tx owner is = is

  -- another's exit isn't of the tip
  pub others-apart : (x : Exit) → Has (exits (log_of events)) x → x.coin ≡ c → is_mine at.hold.me x ≡ false
      → x.block ≡ e → ⊥
  others-apart x there c_is other at_tip = by_begun of.begun
    where
      of : OfHeld (tests_by dig) rules events c at.held.made x
      of = of_held (tests_by dig) rules events w c e at.hold.me legal at.held x there c_is

      never : x.owner ≡ at.hold.me → ⊥
      never same =
          true≢false (sym (eq-eqb x.account at.hold.me.account (of.account ∙ ap (λ (o : Owner). o.account) same))
          ∙ other)

      by_begun : IsBegun (tests_by dig) rules (log_of events) (seen events c) c at.held.made x.block x.parent x.owner
          x.parent_owner → ⊥
      by_begun (OfDeposit block parent owner) =
          never (owner-before (tests_by dig) rules signs events w c e legal (seen (Idle ∷ events) c) at x.owner x.block
          (Deposited block owner) at_tip)
      by_begun (OfSpend s opened low parent shown below) =
          never (owner-before (tests_by dig) rules signs events w c e legal (seen (Idle ∷ events) c) at x.owner x.block
          (Transferred s opened low) at_tip)

  -- a call is due for another's exit whose window is open, or it is challenged at the tip
  pub others-seen : (x : Exit) → Has (exits (log_of events)) x → x.coin ≡ c → is_mine at.hold.me x ≡ false
      → now (log_of events) < x.start + CHALLENGE_WINDOW
      → ((call : RootCall) × Has (due_for (log_of events) account kept.links (exit_view x)) call)
      ⊎ (is_none (challenge_at e x.challenges) ≡ false)
  unfolding look-offers
  others-seen x there c_is other inside =
      others-due (tests_by dig) rules signs events w c e legal (seen (Idle ∷ events) c) at
      (due_of (log_of events) account (record { links = kept.links })) (look-offers at.hold.me at.held) x there c_is
      (all-has (IsUnspent c e) (exits (log_of events)) x
      (unspent_exits dig digest rules w c e events legal whole look.honest (holding events w c e look.held)) there c_is)
      other inside ((call : RootCall) × Has (due_for (log_of events) account kept.links (exit_view x)) call)
      (λ call has. inl (call, has))

  -- an answer is due to an open challenge of the exit at the tip, in its time
  pub tip-seen : (x : Exit) → Has (exits (log_of events)) x → x.coin ≡ c → x.block ≡ e → (ch : Challenge)
      → Has x.challenges ch → ch.answered ≡ false → now (log_of events) < ch.at + RESPONSE_WINDOW
      → (link : Link) × Has (due_of (log_of events) account (record { links = kept.links }))
      (Respond account kept.links.coin x.block ch.block link.opening)
  unfolding look-offers
  tip-seen x there c_is at_tip ch has still inside =
      mine-due (tests_by dig) rules signs events w c e legal (seen (Idle ∷ events) c) at
      (due_of (log_of events) account (record { links = kept.links })) (look-offers at.hold.me at.held) x there c_is
      at_tip ch has still inside

-- ---- what stands at the look

-- Till then no exit that stands there goes wrong: another's is challenged at the tip, or its window is open still; and
-- the time to answer an open challenge of the own exit at the tip isn't over.
pub record StandsTill (events : List Event) (c e : ℕ) (me : Owner) (end : ℕ) : Type 0 where
  pub others : (y : Exit) → Has (exits (log_of events)) y → y.coin ≡ c → is_mine me y ≡ false
      → (is_none (challenge_at e y.challenges) ≡ false) ⊎ (end < y.start + CHALLENGE_WINDOW)
  pub tips : (y : Exit) → Has (exits (log_of events)) y → y.coin ≡ c → y.block ≡ e → is_mine me y ≡ true
      → (ch : Challenge) → Has y.challenges ch → ch.answered ≡ false → end < ch.at + RESPONSE_WINDOW

module _ (dig : List ℕ → List ℕ) (digest : IsDigest dig) (rules : Rules) (events : List Event) (n w c e account : ℕ)
    (kept : Kept) (legal : IsLegal (tests_by dig) rules events) (look : IsLook dig rules events n w c e kept)
    (nothing : NothingIsDue (log_of events) account kept)
    (ahead : AreAhead (log_of events) (now (log_of events)) kept) where
  abbrev Me : Owner
  Me = (at dig digest rules events n w c e account kept legal look).hold.me

  none-due : (x : ExitView) (call : RootCall) → Has (standing (log_of events) kept) x
      → Has (due_for (log_of events) account kept.links x) call → ⊥
  none-due x call there has =
      subst (λ (l : List RootCall). Has l call)
      (nothing.due x (has-contains (standing (log_of events) kept) x there)) has

  -- where nothing is due, it is so forever
  pub calm-stands : (end : ℕ) → StandsTill events c e Me end
  calm-stands end = record {
    others = λ y there c_is other. elim (cases_Bool (is_none (challenge_at e y.challenges))) [
      | inr challenged ↦ inl challenged
      | inl free ↦ elim (cases_eq y.block e) [
        | inl same ↦ absurd (others-apart dig digest rules events n w c e account kept legal look y there c_is other
            same)
        | inr apart ↦ elim (others-seen dig digest rules events n w c e account kept legal look y there c_is other
            (ahead-window (log_of events) (now (log_of events)) kept ahead y there (c_is ∙ sym look.coin_is)
            (ap (λ b. y.block == b) look.tip_is ∙ ne_eqb y.block e apart)
            (ap (λ b. is_none (challenge_at b y.challenges)) look.tip_is ∙ free))) [
              | inl due ↦ absurd (none-due (exit_view y) due.0
                  (standing-has (log_of events) kept y there (c_is ∙ sym look.coin_is)) due.1)
              | inr challenged ↦ inl challenged
            ]
      ]
    ];
    tips = λ y there c_is at_tip mine ch has still.
        let due = tip-seen dig digest rules events n w c e account kept legal look y there c_is at_tip ch has still
        (ahead-answer (log_of events) (now (log_of events)) kept ahead y there (c_is ∙ sym look.coin_is)
        (eq-eqb y.block (tip kept) (at_tip ∙ sym look.tip_is)) ch has still) in
        let r = has-flat_map (due_for (log_of events) account kept.links)
        (exits_of (log_of events) kept.links.coin)
        (Respond account kept.links.coin y.block ch.block due.0.opening) due.1 in
        absurd (none-due r.0 (Respond account kept.links.coin y.block ch.block due.0.opening) r.1 r.2);
  }
