-- Each call that is advised for the history of a coin is accepted.
use Rattle.coin_safety.proofs.Words.{◌≡◌, ℕ, ◌+◌, ◌<◌, ◌≤◌, ◌==◌, ◌&&◌, ◌||◌, true, false, if◌then◌else◌, List, [], ◌∷◌, ◌++◌, map, filter, Some, None, inl, inr, refl, sym, ap, ◌∙◌, subst, arith, is_some, nat_lt, Contains, flat_map, option_and_then, option_map, option_map_or, and_parts, and_from, eqb-true, eq-eqb, lt-ltb, ltb-true, ltb-false, leb-true, Owner, RawOpening, SignedTx, Links, Shown, Spend, RootCall, Fund, Tick, Deposit, Commit, StartDeposit, StartSpend, After, Between, Before, Respond, Finish, ChallengeView, CoinView, ExitView, CHALLENGE_BOND, CHALLENGE_WINDOW, EXIT_PERIOD, is_challenged, ShowsTx, StartsSpend, CancelsBetween, tip_of, balance_of, Tests, Rules, root_at, answer_to, is_accepted, is_before_parent, is_over, now, coin_at, Exit, is_exit, exits, exit_at, exits_of, exit_view, challenge_view, deposit_exit, spend_exit, accepted_calls_show, owners_are_read, transfers_are_shown, shown_calls_are_accepted, some_same, Bundle, IsHistory, root_at-grown, committed-le, due_for, due_of, IsLegalBy, HaveOneLeaf, openings_of_call, is_poor_before, Has, has-contains, contains-has, has-left, has-cases, has-map, has-filter, has-flat_map, all-has, only-found, none-found, any-map, seen, IsShownAt, Deposited, Transferred, IsBegun, OfDeposit, OfSpend, IsShownExit, exits-shown, Kept, standing, exit_in, start_shown, lowest, earlier_spend, instead, is_to_finish, has_challenged, is_own, own_start, finishes, due, shown_again, timed, calls_of, tip, is_poor, ActsAreAccepted}
use Rattle.plasma_tx.specs.Laws.{last_start, without_challenges}
use Rattle.plasma_tx.specs.Openings.{leaf_in}
use Rattle.plasma_tx.specs.Transfer.{transfer_in}
use Rattle.plasma_tx.proofs.RuleNames.{exits-distinct, is_at}
use Rattle.plasma_tx.proofs.Stands.{exits_stand}
use Rattle.watch_duty.proofs.Accepts.{due_calls_are_accepted}
use Rattle.watch_duty.proofs.Dues.{IsDue, DueAfter, DueBetween, DueBefore, DueRespond, due_for-due}
use Rattle.coin_safety.proofs.Blocks.{deposit-low, view-exit}
use Rattle.coin_safety.proofs.Again.{IsAgain, again-in, answer-shows}
use Rattle.coin_safety.proofs.Starting.{own-accepted}
use Rattle.coin_safety.proofs.Found.{least-has}
use Rattle.coin_safety.proofs.Viewed.{viewed}

-- a standing exit is the one of its coin and block
stands : (log : List RootCall) (x : Exit) → Has (exits log) x → exit_at log x.coin x.block ≡ Some x
unfolding exit_at
stands log x h =
    only-found (is_exit x.coin x.block) (exits log) x (exits-distinct log x.coin x.block) h
    (and_from (x.coin == x.coin) (x.block == x.block) (eq-eqb x.coin x.coin refl) (eq-eqb x.block x.block refl))

module _ (tests : Tests) (rules : Rules) where
  -- what the start of a transfer's exit showed
  record IsShownStart (log : List RootCall) (c : ℕ) (z : Exit) (o : RawOpening) : Type 0 where
    tx : SignedTx
    shown : ShowsTx tests rules log c o tx
    child : tx.body.parent ≡ z.parent
    signed : tests.is_signed tx z.parent_owner ≡ true

  shows-more : (log : List RootCall) (call : RootCall) (c : ℕ) (o : RawOpening) (tx : SignedTx)
      → ShowsTx tests rules log c o tx → ShowsTx tests rules (call ∷ log) c o tx
  shows-more log call c o tx s = record {
    root = s.root;
    committed = root_at-grown log call o.block (committed-le log o.block (ap is_some s.committed)) ∙ s.committed;
    opened = s.opened;
    spelled = s.spelled;
  }

  grown : (log : List RootCall) (call : RootCall) (c : ℕ) (z : Exit) (o : RawOpening) → IsShownStart log c z o
      → IsShownStart (call ∷ log) c z o
  grown log call c z o is = record {
    tx = is.tx;
    shown = shows-more log call c o is.tx is.shown;
    child = is.child;
    signed = is.signed;
  }

  begun : (log : List RootCall) (account c : ℕ) (parent : Shown) (exit : RawOpening)
      → StartsSpend tests rules log account c parent exit
      → IsShownStart (StartSpend account c parent exit ∷ log) c (spend_exit log account c parent exit) exit
  begun log account c parent exit is = record {
    tx = is.tx;
    shown = shows-more log (StartSpend account c parent exit) c exit is.tx is.shown;
    child = is.child;
    signed = ap (tests.is_signed is.tx)
        (owners_are_read tests rules log c parent is.parent_owner is.parent_shown) ∙ is.signed;
  }

  -- the exit that stands at a block, with what its last start showed
  started : (log : List RootCall) (c b : ℕ) (z : Exit) (o : RawOpening) → IsLegalBy tests rules log
      → last_start log c b ≡ Some z → 0 < z.parent → start_shown log c b ≡ Some o
      → IsShownStart log c z o × (o.block ≡ b)
  unfolding IsLegalBy last_start start_shown
  started [] c b z o legal is low shown = absurd (cc is)
  started (StartSpend account coin parent exit ∷ log) c b z o legal is low shown =
      let call : RootCall = StartSpend account coin parent exit in
      let new : Exit = spend_exit log account coin parent exit in
      (elim ((coin == c) && (exit.block == b)) as (λ t. ((coin == c) && (exit.block == b)) ≡ t
      → (if t then (if t then Some new else None) else last_start log c b) ≡ Some z
      → (if t then Some exit else start_shown log c b) ≡ Some o
      → IsShownStart (call ∷ log) c z o × (o.block ≡ b)) [
        | true ↦ λ named same it.
            let parts = and_parts (coin == c) (exit.block == b) named in
            let at : coin ≡ c = eqb-true coin c parts.0 in
            let own : exit ≡ o = some_same exit o it in (
              subst (λ k. IsShownStart (call ∷ log) k z o) at
                  (subst (λ (y : Exit). IsShownStart (call ∷ log) coin y o) (some_same new z same)
                  (subst (λ (p : RawOpening). IsShownStart (call ∷ log) coin new p) own
                  (begun log account coin parent exit (accepted_calls_show tests rules log call legal.0)))),
              ap (λ (p : RawOpening). p.block) (sym own) ∙ eqb-true exit.block b parts.1,
            )
        | false ↦ λ other same it.
            let was = started log c b z o legal.1 same low it in (grown log call c z o was.0, was.1)
      ]) refl is shown
  started (StartDeposit account coin block ∷ log) c b z o legal is low shown =
      let new : Exit = deposit_exit log account coin block in
      (elim ((coin == c) && (block == b)) as (λ t. (if t then (if t then Some new else None) else last_start log c b)
      ≡ Some z → IsShownStart (StartDeposit account coin block ∷ log) c z o × (o.block ≡ b)) [
        | true ↦ λ same. absurd (omega (arith, ap (λ (y : Exit). y.parent) (some_same new z same)))
        | false ↦ λ same. let was = started log c b z o legal.1 same low shown in
            (grown log (StartDeposit account coin block) c z o was.0, was.1)
      ]) is
  started (After account coin exit spend ∷ log) c b z o legal is low shown =
      (elim ((coin == c) && (exit == b)) as (λ t. (if t then None else last_start log c b) ≡ Some z
      → IsShownStart (After account coin exit spend ∷ log) c z o × (o.block ≡ b)) [
        | true ↦ λ same. absurd (cc same)
        | false ↦ λ same. let was = started log c b z o legal.1 same low shown in
            (grown log (After account coin exit spend) c z o was.0, was.1)
      ]) is
  started (Between account coin exit spend ∷ log) c b z o legal is low shown =
      (elim ((coin == c) && (exit == b)) as (λ t. (if t then None else last_start log c b) ≡ Some z
      → IsShownStart (Between account coin exit spend ∷ log) c z o × (o.block ≡ b)) [
        | true ↦ λ same. absurd (cc same)
        | false ↦ λ same. let was = started log c b z o legal.1 same low shown in
            (grown log (Between account coin exit spend) c z o was.0, was.1)
      ]) is
  started (Finish account coin exit ∷ log) c b z o legal is low shown =
      (elim ((coin == c) && (exit == b)) as (λ t. (if t then None else last_start log c b) ≡ Some z
      → IsShownStart (Finish account coin exit ∷ log) c z o × (o.block ≡ b)) [
        | true ↦ λ same. absurd (cc same)
        | false ↦ λ same. let was = started log c b z o legal.1 same low shown in
            (grown log (Finish account coin exit) c z o was.0, was.1)
      ]) is
  started (Fund account amount ∷ log) c b z o legal is low shown =
      let was = started log c b z o legal.1 is low shown in (grown log (Fund account amount) c z o was.0, was.1)
  started (Tick time ∷ log) c b z o legal is low shown =
      let was = started log c b z o legal.1 is low shown in (grown log (Tick time) c z o was.0, was.1)
  started (Deposit account amount key ∷ log) c b z o legal is low shown =
      let was = started log c b z o legal.1 is low shown in
      (grown log (Deposit account amount key) c z o was.0, was.1)
  started (Commit account root ∷ log) c b z o legal is low shown =
      let was = started log c b z o legal.1 is low shown in (grown log (Commit account root) c z o was.0, was.1)
  started (Before account coin exit at ∷ log) c b z o legal is low shown =
      let was = started log c b z o legal.1 is low shown in
      (grown log (Before account coin exit at) c z o was.0, was.1)
  started (Respond account coin exit challenged spend ∷ log) c b z o legal is low shown =
      let was = started log c b z o legal.1 is low shown in
      (grown log (Respond account coin exit challenged spend) c z o was.0, was.1)

  module _ (log : List RootCall) (c : ℕ) (made : CoinView) (there : coin_at log c ≡ Some made)
      (legal : IsLegalBy tests rules log) (more : List RawOpening)
      (one : HaveOneLeaf tests log c (seen log c ++ more)) where
    same-tx : (a b : RawOpening) (tx other : SignedTx) → Has (seen log c) a → Has (seen log c) b
        → ShowsTx tests rules log c a tx → ShowsTx tests rules log c b other → a.block ≡ b.block → tx ≡ other
    same-tx a b tx other has_a has_b is_a is_b same =
        let os : List RawOpening = seen log c ++ more in
        let root : is_b.root ≡ is_a.root =
        some_same is_b.root is_a.root (sym is_b.committed ∙ ap (root_at log) (sym same) ∙ is_a.committed) in
        let leaf = one a b is_a.root (has-contains os a (has-left (seen log c) more a has_a))
        (has-contains os b (has-left (seen log c) more b has_b)) same is_a.committed is_a.opened
        (subst (λ r. tests.opens r c b ≡ true) root is_b.opened) in
        some_same tx other
        (sym is_a.spelled ∙ ap (λ n. transfer_in rules.tag c n (leaf_in a.bytes)) same
        ∙ ap (transfer_in rules.tag c b.block) leaf ∙ is_b.spelled)

    -- one block has one owner
    same-owner : (n : ℕ) (one_owner other : Owner) → IsShownAt tests rules log c (seen log c) made n one_owner
        → IsShownAt tests rules log c (seen log c) made n other → one_owner ≡ other
    same-owner n one_owner other (Deposited at is) (Deposited at_too is_too) = is ∙ sym is_too
    same-owner n one_owner other (Deposited at is) (Transferred s above) = absurd (omega (arith, at, above))
    same-owner n one_owner other (Transferred s above) (Deposited at is) = absurd (omega (arith, at, above))
    same-owner n one_owner other (Transferred s above) (Transferred s_too above_too) =
        sym s.to
        ∙ ap (λ (tx : SignedTx). tx.body.to)
        (same-tx s.opening s_too.opening s.tx s_too.tx s.has s_too.has s.shown s_too.shown (s.block ∙ sym s_too.block))
        ∙ s_too.to

    -- the parent of a standing exit, and who owned it
    parent-at : (block parent : ℕ) (owner parent_owner : Owner) → 0 < parent
        → IsBegun tests rules log c (seen log c) made block parent owner parent_owner
        → IsShownAt tests rules log c (seen log c) made parent parent_owner × (parent < block)
    parent-at block parent owner parent_owner low (OfDeposit at none is) = absurd (omega arith)
    parent-at block parent owner parent_owner low (OfSpend s above child at below) = (at, below)

    parent-of : (x : Exit) → Has (exits log) x → x.coin ≡ c → 0 < x.parent
        → IsShownAt tests rules log c (seen log c) made x.parent x.parent_owner × (x.parent < x.block)
    parent-of x has mine low =
        let is = all-has (IsShownExit tests rules log) (exits log) x (exits-shown tests rules log legal) has in
        let same : is.made ≡ made = some_same is.made made (sym is.there ∙ ap (coin_at log) mine ∙ there) in
        parent-at x.block x.parent x.owner x.parent_owner low
        (subst (λ m. IsBegun tests rules log c (seen log c) m x.block x.parent x.owner x.parent_owner) same
        (subst (λ k. IsBegun tests rules log k (seen log k) is.made x.block x.parent x.owner x.parent_owner) mine
        is.begun))

    -- the exit whose start shows an earlier spend
    record IsSibling (x : Exit) (o : RawOpening) : Type 0 where
      y : Exit
      has : Has (exits log) y
      mine : y.coin ≡ c
      parent : y.parent ≡ x.parent
      lower : y.block < x.block
      shown : start_shown log c y.block ≡ Some o

    sibling-at : (x : Exit) (o : RawOpening) (b : ℕ) → lowest (exits_of log c) x.parent ≡ Some b → b < x.block
        → start_shown log c b ≡ Some o → IsSibling x o
    sibling-at x o b is less shown =
        let of_parent : List ExitView = filter (λ exit. exit.parent == x.parent) (exits_of log c) in
        let view = has-map (λ (exit : ExitView). exit.block) of_parent b
        (least-has (map (λ (exit : ExitView). exit.block) of_parent) b is) in
        let passes = has-filter (λ (exit : ExitView). exit.parent == x.parent) (exits_of log c) view.0 view.1 in
        let found = view-exit log c view.0 passes.0 in
        let at : found.0.block ≡ b = ap (λ (v : ExitView). v.block) found.3 ∙ view.2 in
        record {
          y = found.0;
          has = found.1;
          mine = found.2;
          parent = ap (λ (v : ExitView). v.parent) found.3 ∙ eqb-true view.0.parent x.parent passes.1;
          lower = omega (arith, at, less);
          shown = ap (start_shown log c) at ∙ shown;
        }

    sibling : (x : Exit) (o : RawOpening) → earlier_spend log c (exit_view x) ≡ Some o → IsSibling x o
    sibling x o is =
        (elim (lowest (exits_of log c) x.parent) as (λ l. lowest (exits_of log c) x.parent ≡ l
        → option_and_then (λ b. if nat_lt b x.block then start_shown log c b else None) l ≡ Some o
        → IsSibling x o) [
          | None ↦ λ none wrong. absurd (cc wrong)
          | Some b ↦ λ some it. (elim (nat_lt b x.block) as (λ t. nat_lt b x.block ≡ t
              → (if t then start_shown log c b else None) ≡ Some o → IsSibling x o) [
                | true ↦ λ less shown. sibling-at x o b some (ltb-true b x.block less) shown
                | false ↦ λ more_than wrong. absurd (cc wrong)
              ]) refl it
        ]) refl is

    between-shown : (x : Exit) (o : RawOpening) → Has (exits log) x → x.coin ≡ c → 0 < x.parent
        → now log < x.start + CHALLENGE_WINDOW → IsSibling x o
        → CancelsBetween tests rules log c x.block o
    between-shown x o has mine low early s =
        let low_too : 0 < s.y.parent = omega (arith, s.parent) in
        let own = parent-of x has mine low in
        let their = parent-of s.y s.has s.mine low_too in
        let found : exit_at log c s.y.block ≡ Some s.y =
        ap (λ k. exit_at log k s.y.block) (sym s.mine) ∙ stands log s.y s.has in
        let start = started log c s.y.block (without_challenges s.y) o legal
        (sym (exits_stand log c s.y.block) ∙ ap (option_map without_challenges) found) low_too s.shown in
        let owner : x.parent_owner ≡ s.y.parent_owner =
        same-owner x.parent x.parent_owner s.y.parent_owner own.0
        (subst (λ n. IsShownAt tests rules log c (seen log c) made n s.y.parent_owner) s.parent their.0) in
        record {
          exit = x;
          stands = ap (λ k. exit_at log k x.block) (sym mine) ∙ stands log x has;
          in_time = early;
          parent = low;
          later = omega (arith, s.parent, their.1, start.1);
          earlier = omega (arith, s.lower, start.1);
          tx = start.0.tx;
          shown = start.0.shown;
          child = start.0.child ∙ s.parent;
          signed = ap (tests.is_signed start.0.tx) owner ∙ start.0.signed;
        }

-- ---- a Finish

finish-accepted : (tests : Tests) (rules : Rules) (log : List RootCall) (account : ℕ) (kept : Kept) (call : RootCall)
    → Has (finishes log account kept) call → is_accepted (answer_to tests rules log call) ≡ true
finish-accepted tests rules log account kept call h =
    let c : ℕ = kept.links.coin in
    let passing : List ExitView = filter (is_to_finish log account kept) (standing log kept) in
    let view = has-map (λ (exit : ExitView). Finish account c exit.block) passing call h in
    let passes = has-filter (is_to_finish log account kept) (standing log kept) view.0 view.1 in
    let found = view-exit log c view.0 passes.0 in
    let x : Exit = found.0 in
    let over = (and_parts (is_over log view.0.start EXIT_PERIOD)
    (has_challenged account view.0 || is_own kept view.0) passes.1).0 in
    let ripe : view.0.start + EXIT_PERIOD ≤ now log = leb-true (view.0.start + EXIT_PERIOD) (now log) over in
    subst (λ k. is_accepted (answer_to tests rules log k) ≡ true) view.2
    (shown_calls_are_accepted tests rules log (Finish account c view.0.block) (record {
      exit = x;
      stands = ap (λ n. exit_at log c n) (ap (λ (v : ExitView). v.block) (sym found.3))
          ∙ ap (λ k. exit_at log k x.block) (sym found.2) ∙ stands log x found.1;
      in_time = omega (arith, ap (λ (v : ExitView). v.start) found.3, ripe);
    }))

-- ---- in place of a Before

-- who has what a call takes isn't poor for a Before
rich-before : (log : List RootCall) (account : ℕ) (call : RootCall) → is_poor log account call ≡ false
    → is_poor_before log account call ≡ false
rich-before log account (Before by c m shown) rich = rich
rich-before log account (Fund by amount) rich = refl
rich-before log account (Tick time) rich = refl
rich-before log account (Deposit by amount key) rich = refl
rich-before log account (Commit by root) rich = refl
rich-before log account (StartDeposit by c block) rich = refl
rich-before log account (StartSpend by c parent exit) rich = refl
rich-before log account (After by c m spend) rich = refl
rich-before log account (Between by c m spend) rich = refl
rich-before log account (Respond by c m challenged spend) rich = refl
rich-before log account (Finish by c m) rich = refl

-- the coin and the exit's block of a Before
abbrev before_coin : RootCall → ℕ
before_coin (Before by coin m shown) = coin
before_coin call = 0

abbrev before_block : RootCall → ℕ
before_block (Before by coin m shown) = m
before_block call = 0

-- a Before that is due for a view of an exit
before-due : (log : List RootCall) (account : ℕ) (kept : Kept) (view : ExitView) (by coin m : ℕ) (shown : Shown)
    → IsDue log account kept.links view (Before by coin m shown)
    → (tip_of kept.links < view.parent) × (now log < view.start + CHALLENGE_WINDOW) × (kept.links.coin ≡ coin)
    × (view.block ≡ m)
before-due log account kept view by coin m shown (DueAfter link next early same) = absurd (cc same)
before-due log account kept view by coin m shown (DueBetween link beyond next early same) = absurd (cc same)
before-due log account kept view by coin m shown (DueBefore before none early same) =
    (before, early, ap before_coin same, ap before_block same)
before-due log account kept view by coin m shown (DueRespond challenge link at has still next early same) =
    absurd (cc same)

module _ (tests : Tests) (rules : Rules) (log : List RootCall) (account : ℕ) (bundle : Bundle) (kept : Kept)
    (legal : IsLegalBy tests rules log) (is : IsHistory tests rules log bundle kept.links)
    (one : HaveOneLeaf tests log bundle.coin (flat_map (openings_of_call bundle.coin) log ++ bundle.openings)) where
  abbrev c : ℕ
  c = kept.links.coin

  own_coin : kept.links.coin ≡ bundle.coin
  own_coin = ap (λ (l : Links). l.coin) is.shown

  abbrev due_here : List RootCall
  due_here = due_of log account (record { links = kept.links })

  -- a call that is due, and is entered as it is
  as-it-is : (made call : RootCall) → Has due_here made → made ≡ call → is_poor log account call ≡ false
      → is_accepted (answer_to tests rules log call) ≡ true
  as-it-is made call h same money =
      due_calls_are_accepted tests rules log account bundle kept.links call legal is one
      (has-contains due_here call (subst (Has due_here) same h)) (rich-before log account call money)

  there : coin_at log c ≡ Some is.made
  there = ap (coin_at log) own_coin ∙ is.coin

  found-at : (view : ExitView) (x : Exit) → Has (exits log) x → x.coin ≡ c → exit_view x ≡ view
      → exit_at log c view.block ≡ Some x
  found-at view x has mine same =
      ap (λ n. exit_at log c n) (ap (λ (v : ExitView). v.block) (sym same))
      ∙ ap (λ k. exit_at log k x.block) (sym mine) ∙ stands log x has

  -- a Between in place of a Before of an exit whose parent is later than the tip
  between-accepted : (view : ExitView) → Has (exits_of log c) view → tip_of kept.links < view.parent
      → now log < view.start + CHALLENGE_WINDOW → (by : ℕ) (spend : RawOpening)
      → option_and_then (earlier_spend log c) (exit_in (exits_of log c) view.block) ≡ Some spend
      → is_accepted (answer_to tests rules log (Between by c view.block spend)) ≡ true
  between-accepted view h above in_time by spend some =
      let found = view-exit log c view h in
      let x : Exit = found.0 in
      let at : x.block ≡ view.block = ap (λ (v : ExitView). v.block) found.3 in
      let seen_at : exit_in (exits_of log c) view.block ≡ Some (exit_view x) =
      sym (viewed log c view.block) ∙ ap (option_map exit_view) (found-at view x found.1 found.2 found.3) in
      let spend_is : earlier_spend log c (exit_view x) ≡ Some spend =
      sym (ap (option_and_then (earlier_spend log c)) seen_at) ∙ some in
      let low : 0 < x.parent = omega (arith, ap (λ (v : ExitView). v.parent) found.3, above) in
      let early : now log < x.start + CHALLENGE_WINDOW =
      omega (arith, ap (λ (v : ExitView). v.start) found.3, in_time) in
      let one_here : HaveOneLeaf tests log c (seen log c ++ bundle.openings) =
      subst (λ k. HaveOneLeaf tests log k (seen log k ++ bundle.openings)) (sym own_coin) one in
      subst (λ n. is_accepted (answer_to tests rules log (Between by c n spend)) ≡ true) at
      (shown_calls_are_accepted tests rules log (Between by c x.block spend)
      (between-shown tests rules log c is.made there legal bundle.openings one_here x spend found.1 found.2 low early
      (sibling tests rules log c is.made there legal bundle.openings one_here x spend spend_is)))

  -- the Before, or a Between in its place
  either-accepted : (view : ExitView) → Has (exits_of log c) view → tip_of kept.links < view.parent
      → now log < view.start + CHALLENGE_WINDOW → (by : ℕ) (shown : Shown) (call : RootCall)
      → instead log c (Before by c view.block shown) ≡ call
      → (Before by c view.block shown ≡ call → is_accepted (answer_to tests rules log call) ≡ true)
      → is_accepted (answer_to tests rules log call) ≡ true
  either-accepted view h above in_time by shown call same itself =
      (elim (option_and_then (earlier_spend log c) (exit_in (exits_of log c) view.block)) as (λ o.
      option_and_then (earlier_spend log c) (exit_in (exits_of log c) view.block) ≡ o
      → option_map_or (λ spend. Between by c view.block spend) o (Before by c view.block shown) ≡ call
      → is_accepted (answer_to tests rules log call) ≡ true) [
        | None ↦ λ none it. itself it
        | Some spend ↦ λ some it. subst (λ k. is_accepted (answer_to tests rules log k) ≡ true) it
            (between-accepted view h above in_time by spend some)
      ]) refl same

  advised : (made call : RootCall) → Has due_here made → instead log c made ≡ call
      → is_poor log account call ≡ false → is_accepted (answer_to tests rules log call) ≡ true
  advised (Before by coin m shown) call h same money =
      let view = has-flat_map (due_for log account kept.links) (exits_of log c) (Before by coin m shown) h in
      let b = before-due log account kept view.0 by coin m shown
      (due_for-due log account kept.links view.0 (Before by coin m shown) view.2) in
      let e : Before by c view.0.block shown ≡ Before by coin m shown =
      ap (λ k. Before by k view.0.block shown) b.2 ∙ ap (λ n. Before by coin n shown) b.3 in
      either-accepted view.0 view.1 b.0 b.1 by shown call (ap (instead log c) e ∙ same)
      (λ it. as-it-is (Before by coin m shown) call h (sym e ∙ it) money)
  advised made call h same money = as-it-is made call h same money

  -- ---- shown again

  again-accepted : (view : ExitView) (call : RootCall) → Has (exits_of log c) view → IsAgain log account kept view call
      → is_poor log account call ≡ false → is_accepted (answer_to tests rules log call) ≡ true
  again-accepted view call h a money =
      let found = view-exit log c view h in
      let x : Exit = found.0 in
      let n : ℕ = a.spend.block in
      let s = answer-shows tests rules log c (tip kept) view.block a.spend legal a.shown in
      let parent : x.parent ≡ view.parent = ap (λ (v : ExitView). v.parent) found.3 in
      let start : x.start ≡ view.start = ap (λ (v : ExitView). v.start) found.3 in
      let low : is.made.deposit < n = omega (arith, deposit-low tests rules log bundle kept.links is, s.later) in
      let below : n < x.parent = omega (arith, parent, a.below) in
      subst (λ k. is_accepted (answer_to tests rules log k) ≡ true) a.same
      (shown_calls_are_accepted tests rules log (Before account c view.block (Spend a.spend)) (record {
        exit = x;
        stands = found-at view x found.1 found.2 found.3;
        in_time = omega (arith, start, a.early);
        before = ap (λ k. is_before_parent log k x (Spend a.spend)) there
            ∙ and_from (is_some (root_at log n) && nat_lt is.made.deposit n) (nat_lt n x.parent)
            (and_from (is_some (root_at log n)) (nat_lt is.made.deposit n) (ap is_some s.shown.committed)
            (lt-ltb is.made.deposit n low)) (lt-ltb n x.parent below);
        owner = s.tx.body.to;
        owner_shown = ap (option_map (λ (tx : SignedTx). tx.body.to))
            (transfers_are_shown tests rules log c a.spend s.tx s.shown);
        none_there = none-found (is_at n) x.challenges
            (sym (any-map challenge_view (λ (v : ChallengeView). v.block == n) x.challenges)
            ∙ ap (λ (v : ExitView). is_challenged n v.challenges) found.3 ∙ a.free);
        covered = ltb-false (balance_of log account) CHALLENGE_BOND (ap (is_poor log account) a.same ∙ money);
      }))

  again-advised : (made call : RootCall) → Has (shown_again log account kept) made → instead log c made ≡ call
      → is_poor log account call ≡ false → is_accepted (answer_to tests rules log call) ≡ true
  again-advised made call h same money =
      let r = again-in log account kept made h in
      either-accepted r.0 r.1 r.2.above r.2.early account (Spend r.2.spend) call (ap (instead log c) r.2.same ∙ same)
      (λ it. again-accepted r.0 call r.1 (subst (IsAgain log account kept r.0) (sym r.2.same ∙ it) r.2) money)

  pub is-accepted : (call : RootCall) → Contains (calls_of log account kept) call
      → is_poor log account call ≡ false → is_accepted (answer_to tests rules log call) ≡ true
  is-accepted call there_is money =
      elim (has-cases (map (instead log c) (timed log account kept) ++ own_start log account kept)
      (finishes log account kept) call
      (contains-has (calls_of log account kept) call there_is)) [
        | inl front ↦ elim (has-cases (map (instead log c) (timed log account kept)) (own_start log account kept) call
            front) [
              | inr start ↦ own-accepted tests rules log account bundle kept call is start money
              | inl first ↦
                  let made = has-map (instead log c) (timed log account kept) call first in
                  (elim (has-cases (due log account kept) (shown_again log account kept) made.0 made.1) [
                    | inl own ↦ advised made.0 call (here made.0 own) made.2 money
                    | inr again ↦ again-advised made.0 call again made.2 money
                  ])
            ]
        | inr last ↦ finish-accepted tests rules log account kept call last
      ]
    where
      here : (made : RootCall) → Has (due log account kept) made → Has due_here made
      here made h =
          (elim kept.sent as (λ o. Has (if is_some o then [] else due_here) made → Has due_here made) [
            | None ↦ λ it. it
            | Some leaf ↦ λ it. absurd it
          ]) h

pub acts_are_accepted : ActsAreAccepted
acts_are_accepted tests rules log account bundle kept call legal is one there money =
    is-accepted tests rules log account bundle kept legal is one call there money
