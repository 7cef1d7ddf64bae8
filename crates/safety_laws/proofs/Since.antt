-- Where an exit that stands at a later event comes from: it stood at the look, or began since.
use Rattle.safety_laws.proofs.Basics.{◌≡◌, ◌⊎◌, ℕ, ◌+◌, ◌≤◌, ◌==◌, true, false, List, [], ◌∷◌, ◌++◌, Some, None, inl, inr, sym, ap, ◌∙◌, arith, rules, is_none, list_any, le_refl, eq-eqb, eqb-true, and_parts, and_from, or_from, or_parts, or_cases, true≢false, false≢true, common_steps}
use Rattle.safety_laws.proofs.CoinWords.{Owner, RootCall, StartDeposit, StartSpend, CHALLENGE_WINDOW, is_start, is_end, is_respond, now, Challenge, Exit, exits, exit_at, challenge_at, Tests, Rules, answer_to, is_accepted, accepted_calls_show, Has, all-has}
use Rattle.safety_laws.proofs.NodeWords.{exit_block}
use Rattle.safety_laws.proofs.WorldWords.{Event, Joins, log_of, coin_of_call, wallet_owner, seen, IsLegal, is_before, none_some, IsShownChallenge, all_shown, owner-stays, IsOwnAt, IfOwn, came-from, begins_own}
use Rattle.world_laws.proofs.Earlier.{StoodBefore, IsNew, stood-before, clock-before}
use Rattle.safety_laws.proofs.ActLook.{stands-there}

-- the challenge was open at the look, and no call since answered it
pub record WasOpenThen (since : List RootCall) (x y : Exit) (ch : Challenge) : Type 0 where
  pub old : Challenge
  pub there : Has y.challenges old
  pub still : old.answered ≡ false
  pub at : old.at ≡ ch.at
  pub block : old.block ≡ ch.block
  pub unanswered : list_any (is_respond x.coin x.block ch.block) since ≡ false

-- the exit stood at the look, and no call since ended it
pub record IsOld (since : List RootCall) (events : List Event) (x : Exit) : Type 0 where
  pub y : Exit
  pub there : Has (exits (log_of events)) y
  pub coin : y.coin ≡ x.coin
  pub block : y.block ≡ x.block
  pub account : y.account ≡ x.account
  pub start : y.start ≡ x.start
  pub challenged : (n : ℕ) → is_none (challenge_at n y.challenges) ≡ false
      → is_none (challenge_at n x.challenges) ≡ false
  pub unended : list_any (is_end x.coin x.block) since ≡ false
  -- it is challenged where a call since challenged it
  pub met : (n : ℕ) → list_any (is_before x.coin x.block n) since ≡ true
      → is_none (challenge_at n x.challenges) ≡ false
  -- an open challenge of it was made since, or was open then, and no call since answered it
  pub opened : (ch : Challenge) → Has x.challenges ch → ch.answered ≡ false
      → (now (log_of events) ≤ ch.at)
      ⊎ WasOpenThen since x y ch

-- it began since
pub record IsBegunSince (events : List Event) (x : Exit) : Type 0 where
  pub start : now (log_of events) ≤ x.start
  pub opened : (ch : Challenge) → Has x.challenges ch → ch.answered ≡ false → now (log_of events) ≤ ch.at

-- nobody can challenge the owner's exit at the tip any more, if it stands
abbrev pub IsShut : List Event → Owner → ℕ → ℕ → Type 0
IsShut events me c e = (y : Exit) → Has (exits (log_of events)) y → IsOwnAt me c e y
    → y.start + CHALLENGE_WINDOW ≤ now (log_of events)

module _ (tests : Tests) (rules : Rules) (events : List Event) where
  -- the clock doesn't go back
  pub clock-since : (later : List Event) → IsLegal tests rules (later ++ events)
      → now (log_of events) ≤ now (log_of (later ++ events))
  unfolding IsLegal log_of
  clock-since [] legal = le_refl (now (log_of events))
  clock-since (Joins call ∷ later) legal = grind (arith, common_steps, clock-since later legal.1, clock-before)
  clock-since (event ∷ later) legal = clock-since later legal.1

  new-since : (later : List Event) (call : RootCall) (x : Exit) → now (log_of events) ≤ now (log_of (later ++ events))
      → IsNew (log_of (later ++ events)) call x → IsBegunSince events x
  new-since later call x clock new = grind (arith, common_steps)

  open-still : (since : List RootCall) (call : RootCall) (x y z : Exit) (ch old : Challenge) → y.coin ≡ x.coin
      → y.block ≡ x.block → old.block ≡ ch.block → old.at ≡ ch.at
      → is_respond x.coin x.block ch.block call ≡ false → WasOpenThen since y z old
      → WasOpenThen (call ∷ since) x z ch
  open-still since call x y z ch old coin block place at other o = grind (arith, common_steps, or_from)

  old-still : (since : List RootCall) (log : List RootCall) (call : RootCall) (x : Exit)
      → now (log_of events) ≤ now log → (s : StoodBefore log call x) → IsOld since events s.y
      → IsOld (call ∷ since) events x
  old-still since log call x clock s o = record {
    y = o.y;
    there = o.there;
    coin = o.coin ∙ s.coin;
    block = o.block ∙ s.block;
    account = o.account ∙ s.account;
    start = o.start ∙ s.start;
    challenged = λ n was. s.challenged n (o.challenged n was);
    unended = or_from (is_end x.coin x.block call) (list_any (is_end x.coin x.block) since) s.not_ended
        ((λ i. list_any (is_end (sym s.coin i) (sym s.block i)) since) ∙ o.unended);
    met = λ n some. elim (or_cases (is_before x.coin x.block n call) (list_any (is_before x.coin x.block n) since)
        some) [
          | inl here ↦ s.by_it n here
          | inr earlier ↦ s.challenged n (o.met n
              ((λ i. list_any (is_before (s.coin i) (s.block i) n) since) ∙ earlier))
        ];
    opened = λ ch has still. elim (s.opened ch has still) [
      | inl made ↦ inl (omega (arith, clock, made.1))
      | inr was ↦ elim (o.opened was.old was.there was.unanswered) [
        | inl recent ↦ inl (omega (arith, recent, was.at))
        | inr old ↦ inr (open-still since call x s.y o.y ch was.old s.coin s.block was.block was.at was.not_answered
            old)
      ]
    ];
  }

  begun-still : (log : List RootCall) (call : RootCall) (x : Exit) → now (log_of events) ≤ now log
      → (s : StoodBefore log call x) → IsBegunSince events s.y → IsBegunSince events x
  begun-still log call x clock s b = grind (arith, common_steps)

  old-itself : (x : Exit) → Has (exits (log_of events)) x → IsOld [] events x
  old-itself x there = grind (arith, common_steps, false≢true)

  pub from-look : (later : List Event) → IsLegal tests rules (later ++ events) → (x : Exit)
      → Has (exits (log_of (later ++ events))) x → IsOld (log_of later) events x ⊎ IsBegunSince events x
  unfolding IsLegal log_of
  from-look [] legal x there = inl (old-itself x there)
  from-look (Joins call ∷ later) legal x there =
      let clock = clock-since later legal.1 in
      elim (stood-before tests rules (log_of (later ++ events)) call legal.0.accepted x there) [
        | inl new ↦ inr (new-since later call x clock new)
        | inr s ↦ elim (from-look later legal.1 s.y s.there) [
          | inl o ↦ inl (old-still (log_of later) (log_of (later ++ events)) call x clock s o)
          | inr b ↦ inr (begun-still (log_of (later ++ events)) call x clock s b)
        ]
      ]
  from-look (event ∷ later) legal x there = from-look later legal.1 x there

  -- the wallet's owner stays
  pub owner-since : (later : List Event) (w : ℕ) (me : Owner) → IsLegal tests rules (later ++ events)
      → wallet_owner events w ≡ Some me → wallet_owner (later ++ events) w ≡ Some me
  unfolding IsLegal
  owner-since [] w me legal is = is
  owner-since (event ∷ later) w me legal is =
      owner-stays tests rules event (later ++ events) w me legal (owner-since later w me legal.1 is)

  -- no exit of that name stood before a start
  start-none : (log : List RootCall) (call : RootCall) (c e : ℕ) → is_start c e call ≡ true
      → is_accepted (answer_to tests rules log call) ≡ true → exit_at log c e ≡ None
  start-none log (StartDeposit account k block) c e start is =
      let parts = and_parts (k == c) (block == e) start in
      (λ i. exit_at log (sym (eqb-true k c parts.0) i) (sym (eqb-true block e parts.1) i))
      ∙ (accepted_calls_show tests rules log (StartDeposit account k block) is).none_stands
  start-none log (StartSpend account k parent exit) c e start is =
      let parts = and_parts (k == c) (exit.block == e) start in
      (λ i. exit_at log (sym (eqb-true k c parts.0) i) (sym (eqb-true exit.block e parts.1) i))
      ∙ (accepted_calls_show tests rules log (StartSpend account k parent exit) is).none_stands
  start-none log call c e start is = absurd (false≢true start)

  -- a new exit of the owner's is one that he started
  new-own : (log : List RootCall) (call : RootCall) (me : Owner) (c e : ℕ) (x : Exit)
      → is_accepted (answer_to tests rules log call) ≡ true → Has (exits (call ∷ log)) x → IsOwnAt me c e x
      → IsNew log call x → begins_own (Some me) c e (Joins call) ≡ false → ⊥
  new-own log call me c e x is there own new none =
      elim (all-has (IfOwn log me c e call) (exits (call ∷ log)) x (came-from tests rules log me c e call is) there
      own) [
        | inl r ↦ none_some r.0 (sym (start-none log call c e
            ((λ i. is_start (sym own.0 i) (sym own.2 i) call) ∙ new.started) is)
            ∙ ap (exit_at log c) (sym r.2.2) ∙ stands-there log c r.0 r.1 r.2.0)
        | inr s ↦ true≢false (sym (and_from _ _ (and_from _ _ s.start
            (eq-eqb (coin_of_call call) c s.coin_is)) (eq-eqb (exit_block call) e s.block_is)) ∙ none)
      ]

  -- where the owner started none since, his exit at e stood at the look
  pub own-since : (later : List Event) (me : Owner) (c e : ℕ) → IsLegal tests rules (later ++ events)
      → list_any (begins_own (Some me) c e) later ≡ false → (x : Exit)
      → Has (exits (log_of (later ++ events))) x → IsOwnAt me c e x → IsOld (log_of later) events x
  unfolding IsLegal log_of
  own-since [] me c e legal none x there own = old-itself x there
  own-since (Joins call ∷ later) me c e legal none x there own =
      let parts = or_parts (begins_own (Some me) c e (Joins call)) (list_any (begins_own (Some me) c e) later) none in
      elim (stood-before tests rules (log_of (later ++ events)) call legal.0.accepted x there) [
        | inl new ↦ absurd (new-own (log_of (later ++ events)) call me c e x legal.0.accepted there own new parts.0)
        | inr s ↦ old-still (log_of later) (log_of (later ++ events)) call x (clock-since later legal.1) s
            (own-since later me c e legal.1 parts.1 s.y s.there
            (s.coin ∙ own.0, (λ i. (s.account i) == me.account) ∙ own.1, s.block ∙ own.2))
      ]
  own-since (event ∷ later) me c e legal none x there own =
      own-since later me c e legal.1 (or_parts (begins_own (Some me) c e event)
      (list_any (begins_own (Some me) c e) later) none).1 x there own

  -- where it couldn't be challenged any more, each open challenge of it was open then
  pub own-shut : (later : List Event) (me : Owner) (c e : ℕ) → IsLegal tests rules (later ++ events)
      → list_any (begins_own (Some me) c e) later ≡ false → IsShut events me c e → (x : Exit)
      → Has (exits (log_of (later ++ events))) x → IsOwnAt me c e x → (ch : Challenge) → Has x.challenges ch
      → ch.answered ≡ false → (o : IsOld (log_of later) events x) × WasOpenThen (log_of later) x o.y ch
  own-shut later me c e legal none shut x there own ch has still =
      let o = own-since later me c e legal none x there own in
      elim (o.opened ch has still) [
        | inr old ↦ (o, old)
        | inl recent ↦
            let s = all_shown tests rules (later ++ events) legal x there in
            let k = all-has (IsShownChallenge tests rules (log_of (later ++ events))
            (seen (later ++ events) x.coin) x.coin s.made x.parent x.start) x.challenges ch s.challenges has in
            let over = shut o.y o.there
            (o.coin ∙ own.0, (λ i. (o.account i) == me.account) ∙ own.1, o.block ∙ own.2) in
            let early = k.in_window in
            absurd (omega (arith, early, over, recent, o.start))
      ]
