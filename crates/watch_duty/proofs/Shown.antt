-- What the standing exits of a legal log were shown by: each was started, and each challenge of it was made, with
-- openings in calls of the log.
use Rattle.watch_duty.proofs.Words.{◌≡◌, ℕ, ◌<◌, ◌==◌, Bool, true, false, if◌then◌else◌, List, [], ◌∷◌, ◌++◌, map, Option, Some, None, inl, inr, refl, sym, ap, ◌∙◌, subst, arith, find, is_some, option_map, AllByRecursion, flat_map, and_parts, eqb-true, eq-eqb, ltb-true, common_steps, Owner, RawOpening, SignedTx, AtDeposit, Spend, RootCall, StartDeposit, StartSpend, Before, Respond, CoinView, Challenge, Exit, coin_at, block_of, owner_of, owner_of_coin, owner_of_opening, is_exit, deposit_exit, spend_exit, exits, exit_at, with_exit_changed, with_answer_at, with_challenge, new_challenge, challenge_at, Tests, Rules, shown_tx, shown_owner, is_before_parent, is_parent_of, ShowsTx, StartsDeposit, StartsSpend, Challenges, some_same, all-append, all-map, all-weaker, each-exit, exits-distinct, IsLegalBy, shown_openings, openings_of_call}
use Rattle.plasma_tx.specs.declared.call.Shown.{Shown}
use Rattle.plasma_tx.specs.Openings.{leaf_in}
use Rattle.plasma_tx.proofs.Leaves.{recipient-named}
use Rattle.plasma_tx.proofs.Accepted.{openings_show, accepted_calls_show}
use Rattle.coin_history.proofs.HistoryGrow.{root_at-grown, committed-le, coin_at-grown}
use Rattle.watch_duty.proofs.Members.{Has, has-left, has-right, only-found}

-- the openings of the log's calls of a coin
abbrev pub seen : List RootCall → ℕ → List RawOpening
seen log c = flat_map (openings_of_call c) log

module _ (tests : Tests) (rules : Rules) where
  -- one of these openings shows that the coin went to the owner in the block
  pub record IsSpent (log : List RootCall) (c : ℕ) (os : List RawOpening) (n : ℕ) (owner : Owner) : Type 0 where
    pub opening : RawOpening
    pub has : Has os opening
    pub tx : SignedTx
    pub shown : ShowsTx tests rules log c opening tx
    pub block : opening.block ≡ n
    pub to : tx.body.to ≡ owner

  -- the owner after the block is shown: it is the deposit's, or one of these openings shows it
  pub data IsShownAt (log : List RootCall) (c : ℕ) (os : List RawOpening) (made : CoinView) (n : ℕ) (owner : Owner)
      : Type 0 where
    Deposited : n ≡ made.deposit → owner ≡ made.owner → IsShownAt log c os made n owner
    Transferred : IsSpent log c os n owner → made.deposit < n → IsShownAt log c os made n owner

  -- a challenge is below the exit's parent
  pub record IsShownChallenge (log : List RootCall) (c : ℕ) (os : List RawOpening) (made : CoinView) (parent : ℕ)
      (challenge : Challenge) : Type 0 where
    pub shown : IsShownAt log c os made challenge.block challenge.owner
    pub below : challenge.block < parent

  -- how an exit was started
  pub data IsBegun (log : List RootCall) (c : ℕ) (os : List RawOpening) (made : CoinView) (block parent : ℕ)
      (owner parent_owner : Owner) : Type 0 where
    OfDeposit : block ≡ made.deposit → parent ≡ 0 → owner ≡ made.owner
        → IsBegun log c os made block parent owner parent_owner
    OfSpend : (spent : IsSpent log c os block owner) → made.deposit < block → spent.tx.body.parent ≡ parent
        → IsShownAt log c os made parent parent_owner → parent < block
        → IsBegun log c os made block parent owner parent_owner

  pub record IsShownExit (log : List RootCall) (x : Exit) : Type 0 where
    pub made : CoinView
    pub there : coin_at log x.coin ≡ Some made
    pub begun : IsBegun log x.coin (seen log x.coin) made x.block x.parent x.owner x.parent_owner
    pub challenges : AllByRecursion (IsShownChallenge log x.coin (seen log x.coin) made x.parent) x.challenges

  -- ---- one more call

  module _ (log : List RootCall) (call : RootCall) where
    seen-more : (c : ℕ) (o : RawOpening) → Has (seen log c) o → Has (seen (call ∷ log) c) o
    seen-more c o h = has-right (openings_of_call c call) (seen log c) o h

    shows-more : (c : ℕ) (o : RawOpening) (tx : SignedTx) → ShowsTx tests rules log c o tx
        → ShowsTx tests rules (call ∷ log) c o tx
    shows-more c o tx s = record {
      root = s.root;
      committed = root_at-grown log call o.block (committed-le log o.block (ap is_some s.committed)) ∙ s.committed;
      opened = s.opened;
      spelled = s.spelled;
    }

    abbrev spent-more : (c n : ℕ) (owner : Owner) → IsSpent log c (seen log c) n owner
        → IsSpent (call ∷ log) c (seen (call ∷ log) c) n owner
    spent-more c n owner s = record {
      opening = s.opening;
      has = seen-more c s.opening s.has;
      tx = s.tx;
      shown = shows-more c s.opening s.tx s.shown;
      block = s.block;
      to = s.to;
    }

    at-more : (c : ℕ) (made : CoinView) (n : ℕ) (owner : Owner) → IsShownAt log c (seen log c) made n owner
        → IsShownAt (call ∷ log) c (seen (call ∷ log) c) made n owner
    at-more c made n owner (Deposited block is) = Deposited block is
    at-more c made n owner (Transferred s above) = Transferred (spent-more c n owner s) above

    begun-more : (c : ℕ) (made : CoinView) (block parent : ℕ) (owner parent_owner : Owner)
        → IsBegun log c (seen log c) made block parent owner parent_owner
        → IsBegun (call ∷ log) c (seen (call ∷ log) c) made block parent owner parent_owner
    begun-more c made block parent owner parent_owner (OfDeposit at none is) = OfDeposit at none is
    begun-more c made block parent owner parent_owner (OfSpend s above child at below) =
        OfSpend (spent-more c block owner s) above child (at-more c made parent parent_owner at) below

    challenge-more : (c : ℕ) (made : CoinView) (parent : ℕ) (challenge : Challenge)
        → IsShownChallenge log c (seen log c) made parent challenge
        → IsShownChallenge (call ∷ log) c (seen (call ∷ log) c) made parent challenge
    challenge-more c made parent challenge is = record {
      shown = at-more c made challenge.block challenge.owner is.shown;
      below = is.below;
    }

    exit-more : (x : Exit) → IsShownExit log x → IsShownExit (call ∷ log) x
    exit-more x is = record {
      made = is.made;
      there = coin_at-grown log call x.coin is.made is.there;
      begun = begun-more x.coin is.made x.block x.parent x.owner x.parent_owner is.begun;
      challenges = all-weaker (IsShownChallenge log x.coin (seen log x.coin) is.made x.parent)
          (IsShownChallenge (call ∷ log) x.coin (seen (call ∷ log) x.coin) is.made x.parent)
          (challenge-more x.coin is.made x.parent) x.challenges is.challenges;
    }

    -- what the call itself shows
    at-shown : (c : ℕ) (made : CoinView) (shown : Shown) (owner : Owner) → coin_at log c ≡ Some made
        → ((o : RawOpening) → Has (shown_openings shown) o → Has (openings_of_call c call) o)
        → shown_owner tests rules log c shown ≡ Some owner
        → ((block : ℕ) → shown ≡ AtDeposit block → block ≡ made.deposit)
        → ((o : RawOpening) → shown ≡ Spend o → made.deposit < o.block)
        → IsShownAt (call ∷ log) c (seen (call ∷ log) c) made (block_of shown) (owner_of log c shown)
    at-shown c made (AtDeposit block) owner there has is at above =
        Deposited (at block refl) (ap owner_of_coin there)
    at-shown c made (Spend o) owner there has is at above =
        (elim (shown_tx tests rules log c o) as (λ t. shown_tx tests rules log c o ≡ t
        → option_map (λ (tx : SignedTx). tx.body.to) t ≡ Some owner
        → IsShownAt (call ∷ log) c (seen (call ∷ log) c) made o.block (owner_of_opening o)) [
          | None ↦ λ none wrong. absurd (cc wrong)
          | Some tx ↦ λ some same.
              let s = openings_show tests rules log c o tx some in
              Transferred (record {
                opening = o;
                has = has-left (openings_of_call c call) (seen log c) o (has o (inl refl));
                tx = tx;
                shown = shows-more c o tx s;
                block = refl;
                to = sym (recipient-named rules.tag (leaf_in o.bytes) c o.block tx s.spelled);
              }) (above o refl)
        ]) refl is

  -- an opening of the call that shows a transfer
  abbrev spent-shown : (log : List RootCall) (call : RootCall) (c : ℕ) (o : RawOpening) (tx : SignedTx)
      → Has (openings_of_call c call) o → ShowsTx tests rules log c o tx
      → IsSpent (call ∷ log) c (seen (call ∷ log) c) o.block (owner_of_opening o)
  spent-shown log call c o tx has shown = record {
    opening = o;
    has = has-left (openings_of_call c call) (seen log c) o has;
    tx = tx;
    shown = shows-more log call c o tx shown;
    block = refl;
    to = sym (recipient-named rules.tag (leaf_in o.bytes) c o.block tx shown.spelled);
  }

  -- the openings of a call are of its own coin
  has-own : (c : ℕ) (xs : List RawOpening) (o : RawOpening) → Has xs o → Has (if c == c then xs else []) o
  has-own c xs o h = subst (λ b. Has (if b then xs else []) o) (sym (eq-eqb c c refl)) h

  start_deposit-shown : (log : List RootCall) (account c block : ℕ) → StartsDeposit log account c block
      → IsShownExit (StartDeposit account c block ∷ log) (deposit_exit log account c block)
  start_deposit-shown log account c block is = grind (arith, common_steps, coin_at-grown) steps 20000

  -- a parent that fits is the deposit, or later, and before the exit
  parent-at : (log : List RootCall) (made : CoinView) (exit_block : ℕ) (parent : Shown)
      → is_parent_of log made exit_block parent ≡ true → made.deposit < exit_block
      → ((block : ℕ) → parent ≡ AtDeposit block → block ≡ made.deposit)
      × ((o : RawOpening) → parent ≡ Spend o → made.deposit < o.block) × (block_of parent < exit_block)
  parent-at log made exit_block parent fits above =
      grind (arith, common_steps, eqb-true, and_parts, ltb-true) steps 20000

  start_spend-shown : (log : List RootCall) (account c : ℕ) (parent : Shown) (exit : RawOpening)
      → StartsSpend tests rules log account c parent exit
      → IsShownExit (StartSpend account c parent exit ∷ log) (spend_exit log account c parent exit)
  start_spend-shown log account c parent exit is =
      let call : RootCall = StartSpend account c parent exit in
      let above : is.coin.deposit < exit.block = grind (arith, common_steps, ltb-true, and_parts) steps 20000 in
      let fits = parent-at log is.coin exit.block parent is.parent_fits above in
      let has : (o : RawOpening) → Has (shown_openings parent ++ exit ∷ []) o → Has (openings_of_call c call) o =
      has-own c (shown_openings parent ++ exit ∷ []) in
      record {
        made = is.coin;
        there = coin_at-grown log call c is.coin is.there;
        begun = OfSpend
            (spent-shown log call c exit is.tx
            (has exit (has-right (shown_openings parent) (exit ∷ []) exit (inl refl))) is.shown)
            above is.child
            (at-shown log call c is.coin parent is.parent_owner is.there
            (λ o h. has o (has-left (shown_openings parent) (exit ∷ []) o h)) is.parent_shown fits.0 fits.1)
            fits.2;
        challenges = tt;
      }

  -- what may challenge an exit is the deposit, or later, and before the exit's parent
  before-at : (log : List RootCall) (made : CoinView) (x : Exit) (shown : Shown) (found : Option CoinView)
      → found ≡ Some made → is_before_parent log found x shown ≡ true
      → ((block : ℕ) → shown ≡ AtDeposit block → block ≡ made.deposit)
      × ((o : RawOpening) → shown ≡ Spend o → made.deposit < o.block) × (block_of shown < x.parent)
  before-at log made x shown found there is = grind (arith, common_steps, and_parts, eqb-true, ltb-true) steps 20000

  challenged-shown : (log : List RootCall) (account c e : ℕ) (shown : Shown)
      → (is : Challenges tests rules log account c e shown) → IsShownExit log is.exit → is_exit c e is.exit ≡ true
      → IsShownExit (Before account c e shown ∷ log)
      (record is.exit { challenges = is.exit.challenges ++ new_challenge log account c e shown ∷ [] })
  challenged-shown log account c e shown is was named =
      let x : Exit = is.exit in
      let call : RootCall = Before account c e shown in
      let new : Challenge = new_challenge log account c e shown in
      let more = exit-more log call x was in
      let own : x.coin ≡ c = eqb-true x.coin c (and_parts (x.coin == c) (x.block == e) named).0 in
      let there : coin_at log c ≡ Some was.made = ap (coin_at log) (sym own) ∙ was.there in
      let fits = before-at log was.made x shown (coin_at log c) there is.before in
      let at = at-shown log call c was.made shown is.owner there (has-own c (shown_openings shown)) is.owner_shown
      fits.0 fits.1 in
      record {
        made = was.made;
        there = coin_at-grown log call x.coin was.made was.there;
        begun = begun-more log call x.coin was.made x.block x.parent x.owner x.parent_owner was.begun;
        challenges = all-append (IsShownChallenge (call ∷ log) x.coin (seen (call ∷ log) x.coin) was.made x.parent)
            x.challenges new
            (all-weaker (IsShownChallenge log x.coin (seen log x.coin) was.made x.parent)
            (IsShownChallenge (call ∷ log) x.coin (seen (call ∷ log) x.coin) was.made x.parent)
            (challenge-more log call x.coin was.made x.parent) x.challenges was.challenges)
            (record {
              shown = grind (arith, common_steps) steps 20000;
              below = fits.2;
            });
      }

  -- only the exit of that name is changed
  changed-shown : (log next : List RootCall) (c e : ℕ) (change : Exit → Exit) (xs : List Exit)
      → ((x : Exit) → Has xs x → is_exit c e x ≡ true → IsShownExit log x → IsShownExit next (change x))
      → ((x : Exit) → IsShownExit log x → IsShownExit next x)
      → AllByRecursion (IsShownExit log) xs → AllByRecursion (IsShownExit next) (with_exit_changed c e change xs)
  changed-shown log next c e change [] keeps grows all = tt
  changed-shown log next c e change (x ∷ xs) keeps grows all = (
    (elim (is_exit c e x) as (λ b. is_exit c e x ≡ b → IsShownExit next (if b then change x else x)) [
      | true ↦ λ named. keeps x (inl refl) named all.0
      | false ↦ λ other. grows x all.0
    ]) refl,
    changed-shown log next c e change xs (λ y h. keeps y (inr h)) grows all.1,
  )

  before-shown : (log : List RootCall) (account c e : ℕ) (shown : Shown)
      → Challenges tests rules log account c e shown → AllByRecursion (IsShownExit log) (exits log)
      → AllByRecursion (IsShownExit (Before account c e shown ∷ log)) (exits (Before account c e shown ∷ log))
  unfolding exits exit_at
  before-shown log account c e shown is all =
      let new : Challenge = new_challenge log account c e shown in
      let call : RootCall = Before account c e shown in
      changed-shown log (call ∷ log) c e (with_challenge new) (exits log)
      (λ x h named was.
      let found : find (is_exit c e) (exits log) ≡ Some x =
      only-found (is_exit c e) (exits log) x (exits-distinct log c e) h named in
      let same : x ≡ is.exit = some_same x is.exit (sym found ∙ is.stands) in
      let none : is_some (challenge_at (block_of shown) x.challenges) ≡ false =
      ap (λ (y : Exit). is_some (challenge_at (block_of shown) y.challenges)) same ∙ ap is_some is.none_there in
      ap_fact (λ (b : Bool). IsShownExit (call ∷ log)
      (if b then x else record x { challenges = x.challenges ++ new ∷ [] })) none
      (grind (arith, common_steps, challenged-shown) steps 20000))
      (exit-more log call) all
    where
      ap_fact : (P : Bool → Type 0) {b d : Bool} → b ≡ d → P d → P b
      ap_fact P is p = subst P (sym is) p

  answered-shown : (log : List RootCall) (call : RootCall) (block : ℕ) (x : Exit) → IsShownExit (call ∷ log) x
      → IsShownExit (call ∷ log) (record x { challenges = map (with_answer_at block) x.challenges })
  answered-shown log call block x was = record {
    made = was.made;
    there = was.there;
    begun = was.begun;
    challenges = all-map
        (IsShownChallenge (call ∷ log) x.coin (seen (call ∷ log) x.coin) was.made x.parent) (with_answer_at block)
        keeps x.challenges was.challenges;
  }
    where
      keeps : (challenge : Challenge)
          → IsShownChallenge (call ∷ log) x.coin (seen (call ∷ log) x.coin) was.made x.parent challenge
          → IsShownChallenge (call ∷ log) x.coin (seen (call ∷ log) x.coin) was.made x.parent
          (with_answer_at block challenge)
      keeps challenge is =
          elim (challenge.block == block) as (λ b. IsShownChallenge (call ∷ log) x.coin
          (seen (call ∷ log) x.coin) was.made x.parent
          (if b then record challenge { answered = true } else challenge)) [
            | true ↦ record { shown = is.shown; below = is.below }
            | false ↦ is
          ]

  -- ---- all of them

  grown : (log : List RootCall) (call : RootCall) → AllByRecursion (IsShownExit log) (exits log)
      → AllByRecursion (IsShownExit (call ∷ log)) (exits log)
  grown log call all =
      all-weaker (IsShownExit log) (IsShownExit (call ∷ log)) (exit-more log call) (exits log) all

  pub exits-shown : (log : List RootCall) → IsLegalBy tests rules log → AllByRecursion (IsShownExit log) (exits log)
  unfolding IsLegalBy exits
  exits-shown [] legal = tt
  exits-shown (StartDeposit account c block ∷ log) legal =
      let call : RootCall = StartDeposit account c block in
      let is = accepted_calls_show tests rules log call legal.0 in
      each-exit (IsShownExit (call ∷ log)) log call (start_deposit-shown log account c block is) tt
      (grown log call (exits-shown log legal.1))
  exits-shown (StartSpend account c parent exit ∷ log) legal =
      let call : RootCall = StartSpend account c parent exit in
      let is = accepted_calls_show tests rules log call legal.0 in
      each-exit (IsShownExit (call ∷ log)) log call (start_spend-shown log account c parent exit is) tt
      (grown log call (exits-shown log legal.1))
  exits-shown (Before account c e shown ∷ log) legal =
      before-shown log account c e shown
      (accepted_calls_show tests rules log (Before account c e shown) legal.0) (exits-shown log legal.1)
  exits-shown (Respond account c e challenged spend ∷ log) legal =
      let call : RootCall = Respond account c e challenged spend in
      each-exit (IsShownExit (call ∷ log)) log call tt (answered-shown log call challenged)
      (grown log call (exits-shown log legal.1))
  exits-shown (call ∷ log) legal =
      each-exit (IsShownExit (call ∷ log)) log call tt tt (grown log call (exits-shown log legal.1))
