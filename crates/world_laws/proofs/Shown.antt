-- Each standing exit was started with openings that show it, and so was each challenge; whoever holds the coin.
use Rattle.world_laws.proofs.Basics.{◌≡◌, ℕ, ◌+◌, ◌<◌, ◌&&◌, Bool, false, if◌then◌else◌, List, [], ◌∷◌, ◌++◌, Option, Some, None, inl, inr, refl, sym, ap, ◌∙◌, subst, arith, is_some, nat_lt, option_map, AllByRecursion, and_parts, eqb-true, ltb-true, common_steps, some_same, none_some, all-from, all-changed}
use Rattle.world_laws.proofs.CoinWords.{Owner, RawOpening, SignedTx, Shown, AtDeposit, Spend, RootCall, StartDeposit, StartSpend, Before, Respond, CoinView, now, Challenge, Exit, coin_at, exits, block_of, challenge_at, with_challenge, new_challenge, CHALLENGE_WINDOW, Tests, Rules, root_at, shown_tx, IsLegalLog, ShowsTx, StartsSpend, openings_show, accepted_calls_show, all-append, all-map, each-exit, IsLegalBy, shown_openings, openings_of_call, Has, has-left, has-right, has-cases, all-has, log_seen, IsSpent, IsLogShownAt, LogDeposited, LogTransferred, IsLogShownChallenge, IsLogBegun, LogOfDeposit, LogOfSpend, IsLogShownExit, exits-shown}
use Rattle.world_laws.proofs.WorldWords.{Event, Joins, log_of, openings_of, seen, IsLegal}
use Rattle.world_laws.proofs.Clash.{IsOpened}
use Rattle.world_laws.proofs.Walk.{Spent}

-- the block is the deposit's or one that an opening shows, with its owner
pub data IsShownAt (tests : Tests) (rules : Rules) (log : List RootCall) (os : List RawOpening) (c : ℕ)
    (made : CoinView) (n : ℕ) (owner : Owner) : Type 0 where
  Deposited : n ≡ made.deposit → owner ≡ made.owner → IsShownAt tests rules log os c made n owner
  Transferred : (s : Spent rules c os n owner) → IsOpened tests log c s.o → made.deposit < n
      → IsShownAt tests rules log os c made n owner

-- a challenge is below the exit's parent, and was made inside the window
pub record IsShownChallenge (tests : Tests) (rules : Rules) (log : List RootCall) (os : List RawOpening) (c : ℕ)
    (made : CoinView) (parent start : ℕ) (ch : Challenge) : Type 0 where
  pub shown : IsShownAt tests rules log os c made ch.block ch.owner
  pub below : ch.block < parent
  pub in_window : ch.at < start + CHALLENGE_WINDOW

-- how an exit was started
pub data IsBegun (tests : Tests) (rules : Rules) (log : List RootCall) (os : List RawOpening) (c : ℕ)
    (made : CoinView) (block parent : ℕ) (owner parent_owner : Owner) : Type 0 where
  OfDeposit : block ≡ made.deposit → parent ≡ 0 → owner ≡ made.owner
      → IsBegun tests rules log os c made block parent owner parent_owner
  OfSpend : (s : Spent rules c os block owner) → IsOpened tests log c s.o → made.deposit < block
      → s.tx.body.parent ≡ parent → IsShownAt tests rules log os c made parent parent_owner → parent < block
      → IsBegun tests rules log os c made block parent owner parent_owner

pub record IsShownExit (tests : Tests) (rules : Rules) (log : List RootCall) (os : List RawOpening) (c : ℕ) (x : Exit)
    : Type 0 where
  pub made : CoinView
  pub made_is : coin_at log c ≡ Some made
  pub begun : IsBegun tests rules log os c made x.block x.parent x.owner x.parent_owner
  pub challenges : AllByRecursion (IsShownChallenge tests rules log os c made x.parent x.start) x.challenges

-- ---- logs of legal events

pub legal-log : (tests : Tests) (rules : Rules) (events : List Event) → IsLegal tests rules events
    → IsLegalBy tests rules (log_of events)
unfolding IsLegal IsLegalBy log_of
legal-log tests rules [] legal = tt
legal-log tests rules (Joins call ∷ events) legal = (legal.0.accepted, legal-log tests rules events legal.1)
legal-log tests rules (event ∷ events) legal = legal-log tests rules events legal.1

pub legal-table : (tests : Tests) (rules : Rules) (log : List RootCall) → IsLegalBy tests rules log
    → IsLegalLog rules log
unfolding IsLegalBy IsLegalLog
legal-table tests rules [] legal = tt
legal-table tests rules (call ∷ log) legal = ((tests, legal.0), legal-table tests rules log legal.1)

pub seen-grow : (event : Event) (events : List Event) (c : ℕ) (o : RawOpening) → Has (seen events c) o
    → Has (seen (event ∷ events) c) o
unfolding seen
seen-grow event events c o h = has-right (openings_of c event) (seen events c) o h

pub seen-call : (call : RootCall) (events : List Event) (c : ℕ) (o : RawOpening) → Has (openings_of_call c call) o
    → Has (seen (Joins call ∷ events) c) o
unfolding seen openings_of
seen-call call events c o h = has-left (openings_of_call c call) (seen events c) o h

-- the openings of the log's calls are accepted ones
pub log-seen : (events : List Event) (c : ℕ) (o : RawOpening) → Has (log_seen (log_of events) c) o
    → Has (seen events c) o
unfolding log_of
log-seen [] c o h = absurd h
log-seen (Joins call ∷ events) c o h =
    elim (has-cases (openings_of_call c call) (log_seen (log_of events) c) o h) [
      | inl here ↦ seen-call call events c o here
      | inr later ↦ seen-grow (Joins call) events c o (log-seen events c o later)
    ]
log-seen (event ∷ events) c o h = seen-grow event events c o (log-seen events c o h)

-- ---- challenges are made inside the window

abbrev IsInTime : Exit → Type 0
IsInTime x = AllByRecursion (λ ch. ch.at < x.start + CHALLENGE_WINDOW) x.challenges

in-time : (tests : Tests) (rules : Rules) (log : List RootCall) → IsLegalBy tests rules log
    → AllByRecursion IsInTime (exits log)
unfolding IsLegalBy exits
in-time tests rules [] legal = tt
in-time tests rules (Before account c e shown ∷ log) legal =
    let is = accepted_calls_show tests rules log (Before account c e shown) legal.0 in
    all-changed IsInTime log c e (with_challenge (new_challenge log account c e shown)) (λ x found was.
    let same : is.exit ≡ x = some_same is.exit x (sym is.stands ∙ found) in
    let none : is_some (challenge_at (block_of shown) x.challenges) ≡ false =
    ap (λ (y : Exit). is_some (challenge_at (block_of shown) y.challenges)) (sym same) ∙ ap is_some is.none_there in
    let early : now log < x.start + CHALLENGE_WINDOW =
    subst (λ (y : Exit). now log < y.start + CHALLENGE_WINDOW) same is.in_time in
    subst (λ (b : Bool). IsInTime (if b then x else record x {
      challenges = x.challenges ++ new_challenge log account c e shown ∷ [];
    })) (sym none)
    (all-append (λ (ch : Challenge). ch.at < x.start + CHALLENGE_WINDOW) x.challenges
    (new_challenge log account c e shown) was early)) (in-time tests rules log legal.1)
in-time tests rules (Respond account c e challenged spend ∷ log) legal =
    each-exit IsInTime log (Respond account c e challenged spend) tt
    (grind (arith, common_steps, all-map)) (in-time tests rules log legal.1)
in-time tests rules (StartDeposit account c block ∷ log) legal =
    each-exit IsInTime log (StartDeposit account c block) tt tt (in-time tests rules log legal.1)
in-time tests rules (StartSpend account c parent exit ∷ log) legal =
    each-exit IsInTime log (StartSpend account c parent exit) tt tt (in-time tests rules log legal.1)
in-time tests rules (call ∷ log) legal = each-exit IsInTime log call tt tt (in-time tests rules log legal.1)

-- ---- all of them

opened-shown : (tests : Tests) (rules : Rules) (log : List RootCall) (c : ℕ) (o : RawOpening) (tx : SignedTx)
    → ShowsTx tests rules log c o tx → IsOpened tests log c o
opened-shown tests rules log c o tx s = record { root = s.root; root_is = s.committed; opens = s.opened }

module _ (tests : Tests) (rules : Rules) (log : List RootCall) (c : ℕ) (os more : List RawOpening) (made : CoinView)
    (has : (o : RawOpening) → Has os o → Has more o) where
  -- what is spent by these openings is by more
  abbrev spent-from : (n : ℕ) (owner : Owner) → IsSpent tests rules log c os n owner → Spent rules c more n owner
  spent-from n owner s = record {
    o = s.opening;
    has = has s.opening s.has;
    tx = s.tx;
    tx_is = s.shown.spelled;
    block_is = s.block;
    to_is = s.to;
  }

  at-from : (n : ℕ) (owner : Owner) → IsLogShownAt tests rules log c os made n owner
      → IsShownAt tests rules log more c made n owner
  at-from n owner (LogDeposited at is) = Deposited at is
  at-from n owner (LogTransferred s above) =
      Transferred (spent-from n owner s) (opened-shown tests rules log c s.opening s.tx s.shown) above

  begun-from : (block parent : ℕ) (owner parent_owner : Owner)
      → IsLogBegun tests rules log c os made block parent owner parent_owner
      → IsBegun tests rules log more c made block parent owner parent_owner
  begun-from block parent owner parent_owner (LogOfDeposit at none is) = OfDeposit at none is
  begun-from block parent owner parent_owner (LogOfSpend s above child at below) =
      OfSpend (spent-from block owner s) (opened-shown tests rules log c s.opening s.tx s.shown) above child
      (at-from parent parent_owner at) below

  pub shown_at-grow : (n : ℕ) (owner : Owner) → IsShownAt tests rules log os c made n owner
      → IsShownAt tests rules log more c made n owner
  shown_at-grow n owner (Deposited at is) = Deposited at is
  shown_at-grow n owner (Transferred s opened above) =
      Transferred
      (grind (arith, common_steps))
      opened above

pub all_shown : (tests : Tests) (rules : Rules) (events : List Event) → IsLegal tests rules events → (x : Exit)
    → Has (exits (log_of events)) x → IsShownExit tests rules (log_of events) (seen events x.coin) x.coin x
all_shown tests rules events legal x there =
    let log : List RootCall = log_of events in
    let by = legal-log tests rules events legal in
    let is = all-has (IsLogShownExit tests rules log) (exits log) x (exits-shown tests rules log by) there in
    let timed = all-has IsInTime (exits log) x (in-time tests rules log by) there in
    record {
      made = is.made;
      made_is = is.there;
      begun = begun-from tests rules log x.coin (log_seen log x.coin) (seen events x.coin) is.made
          (log-seen events x.coin) x.block x.parent x.owner x.parent_owner is.begun;
      challenges = all-from
          (IsShownChallenge tests rules log (seen events x.coin) x.coin is.made x.parent x.start) x.challenges
          (λ ch h.
          let k = all-has (IsLogShownChallenge tests rules log x.coin (log_seen log x.coin) is.made x.parent)
          x.challenges ch is.challenges h in
          record {
            shown = at-from tests rules log x.coin (log_seen log x.coin) (seen events x.coin) is.made
                (log-seen events x.coin) ch.block ch.owner k.shown;
            below = k.below;
            in_window = all-has (λ (y : Challenge). y.at < x.start + CHALLENGE_WINDOW) x.challenges ch timed h;
          });
    }

-- ---- what the start of a transfer's exit shows of its parent

pub parent_shown : (tests : Tests) (rules : Rules) (log : List RootCall) (os : List RawOpening) (account c : ℕ)
    (parent : Shown) (exit : RawOpening) → (is : StartsSpend tests rules log account c parent exit)
    → ((o : RawOpening) → Has (shown_openings parent) o → Has os o)
    → IsShownAt tests rules log os c is.coin (block_of parent) is.parent_owner
parent_shown tests rules log os account c (AtDeposit block) exit is has =
    Deposited (eqb-true block is.coin.deposit is.parent_fits)
    (some_same is.parent_owner is.coin.owner
    (sym is.parent_shown ∙ ap (option_map (λ (m : CoinView). m.owner)) is.there))
parent_shown tests rules log os account c (Spend opening) exit is has =
    by_tx (shown_tx tests rules log c opening) refl is.parent_shown
  where
    by_tx : (t : Option SignedTx) → shown_tx tests rules log c opening ≡ t
        → option_map (λ (tx : SignedTx). tx.body.to) t ≡ Some is.parent_owner
        → IsShownAt tests rules log os c is.coin opening.block is.parent_owner
    by_tx None none wrong = absurd (none_some is.parent_owner wrong)
    by_tx (Some tx) some same =
        let s = openings_show tests rules log c opening tx some in
        let parts = and_parts (is_some (root_at log opening.block) && nat_lt is.coin.deposit opening.block)
        (nat_lt opening.block exit.block) is.parent_fits in
        Transferred
        (grind (arith, common_steps, some_same))
        (opened-shown tests rules log c opening tx s)
        (grind (arith, common_steps, ltb-true, and_parts))
