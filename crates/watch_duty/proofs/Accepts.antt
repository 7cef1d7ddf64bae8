-- Each call that is due for the history of a coin is accepted, where there is money for a Before.
use Rattle.watch_duty.proofs.Words.{◌≡◌, ℕ, zero, suc, ◌+◌, ◌<◌, ◌≤◌, ◌==◌, true, false, List, [], ◌∷◌, ◌++◌, map, Some, None, inl, inr, refl, sym, ap, ◌∙◌, subst, arith, slice_get, option_map, AllByRecursion, AllPairs, Contains, cases_eq, eqb-true, eq-eqb, ne_eqb, and_from, lt-ltb, ltb-false, recursion_from_All, common_steps, Owner, RawOpening, SignedTx, Link, Links, AtDeposit, Spend, RootCall, Deposit, ChallengeView, CoinView, ExitView, is_challenged, tip_of, now, coins, coin_at, Challenge, Exit, exits, exit_at, exits_of, exit_view, challenge_view, challenge_at, CHALLENGE_WINDOW, RESPONSE_WINDOW, CHALLENGE_BOND, Tests, Rules, root_at, answer_to, is_accepted, ShowsTx, CancelsAfter, CancelsBetween, Challenges, Responds, some_same, exits-distinct, challenged-once, is_at, tip_from, tip-is, next_link, link_after, tip_shown, due_for, due_of, HaveOneLeaf, is_poor_before, DueCallsAreAccepted}
use Rattle.plasma_tx.specs.Money.{balance_of}
use Rattle.plasma_tx.proofs.Acceptance.{transfers_are_shown, shown_calls_are_accepted}
use Rattle.coin_history.specs.declared.bundle.Bundle.{Bundle}
use Rattle.coin_history.specs.History.{opens_block, links_in, links_of, AreLinked}
use Rattle.coin_history.proofs.HistoryShape.{links_rise}
use Rattle.watch_duty.proofs.Members.{Has, has-contains, contains-has, has-left, has-right, has-map, has-filter, has-flat_map, all-has, any-map, only-found, none-found}
use Rattle.watch_duty.proofs.Shown.{seen, IsSpent, IsShownAt, Deposited, Transferred, IsShownChallenge, IsBegun, OfDeposit, OfSpend, IsShownExit, exits-shown}
use Rattle.watch_duty.proofs.GuardLinks.{Rises, rises-from, has-above, has-tip, tip-link, IsAt, Follows, follows, next_link-parent, next_link-ordered, IsOpened, links-opened}
use Rattle.watch_duty.proofs.Dues.{IsDue, DueAfter, DueBetween, DueBefore, DueRespond, due_for-due}

-- a coin's deposit block isn't 0
deposit-above : (log : List RootCall) (c : ℕ) (made : CoinView) → coin_at log c ≡ Some made → 0 < made.deposit
unfolding coin_at
deposit-above [] c made is = absurd (cc is)
deposit-above (Deposit account amount key ∷ log) c made is =
    elim (cases_eq c (coins log + 1)) [
      | inl last ↦
          grind (arith, common_steps, some_same, eq-eqb) steps 20000
      | inr other ↦ deposit-above log c made (simp (ne_eqb c (coins log + 1) other) at is)
    ]
deposit-above (call ∷ log) c made is = deposit-above log c made is

-- an exit that is shown of the coin stands, and so does each challenge of it
stands : (log : List RootCall) (x : Exit) → Has (exits log) x → exit_at log x.coin x.block ≡ Some x
unfolding exit_at
stands log x h = grind (arith, common_steps, only-found, exits-distinct, and_from, eq-eqb) steps 20000

challenge-stands : (log : List RootCall) (c e : ℕ) (x : Exit) (challenge : Challenge) → exit_at log c e ≡ Some x
    → Has x.challenges challenge → challenge_at challenge.block x.challenges ≡ Some challenge
challenge-stands log c e x challenge at h =
    grind (arith, common_steps, only-found, is_at, challenged-once, eq-eqb) steps 20000

-- what is at a place of a list is in it
got-has : (xs : List Link) (i : ℕ) (link : Link) → slice_get xs i ≡ Some link → Has xs link
got-has [] i link is = absurd (cc is)
got-has (x ∷ xs) zero link is = inl (some_same x link is)
got-has (x ∷ xs) (suc i) link is = inr (got-has xs i link is)

module _ (tests : Tests) (rules : Rules) (log : List RootCall) (account : ℕ) (bundle : Bundle) (made : CoinView)
    (there : coin_at log bundle.coin ≡ Some made)
    (one : HaveOneLeaf tests log bundle.coin (seen log bundle.coin ++ bundle.openings))
    (opens : AllByRecursion (λ o. opens_block tests log bundle.coin o ≡ true) bundle.openings)
    (linked : AreLinked tests made.deposit made.owner (links_in rules bundle.coin bundle.openings))
    (rise : Rises made.deposit (links_in rules bundle.coin bundle.openings)) where
  abbrev spends_here : List Link
  spends_here = links_in rules bundle.coin bundle.openings

  abbrev own : Links
  own = links_of rules made bundle

  -- two openings of one block show one transfer
  one-tx : (a b : RawOpening) (tx other : SignedTx) → Has (seen log bundle.coin ++ bundle.openings) a
      → Has (seen log bundle.coin ++ bundle.openings) b → ShowsTx tests rules log bundle.coin a tx
      → ShowsTx tests rules log bundle.coin b other → a.block ≡ b.block → tx ≡ other
  one-tx a b tx other has_a has_b is_a is_b same =
      let os : List RawOpening = seen log bundle.coin ++ bundle.openings in
      let root : is_b.root ≡ is_a.root =
      some_same is_b.root is_a.root (sym is_b.committed ∙ ap (root_at log) (sym same) ∙ is_a.committed) in
      let leaf = one a b is_a.root (has-contains os a has_a) (has-contains os b has_b) same is_a.committed is_a.opened
      (subst (λ r. tests.opens r bundle.coin b ≡ true) root is_b.opened) in
      grind (arith, common_steps, some_same) steps 20000

  opened : (link : Link) → Has spends_here link → IsOpened tests rules log bundle.coin bundle.openings link
  opened link h = links-opened tests rules log bundle.coin bundle.openings link opens h

  -- a transfer that is shown at a link's block is the link's
  link-tx : (n : ℕ) (owner : Owner) (s : IsSpent tests rules log bundle.coin (seen log bundle.coin) n owner)
      (link : Link) → Has spends_here link → link.block ≡ n → s.tx ≡ link.tx
  link-tx n owner s link h at =
      let o = opened link h in
      one-tx s.opening link.opening s.tx link.tx
      (has-left (seen log bundle.coin) bundle.openings s.opening s.has)
      (has-right (seen log bundle.coin) bundle.openings link.opening o.has) s.shown o.shown
      (s.block ∙ sym at ∙ sym o.block)

  -- the owner that is shown at a block of the history is the history's
  owner-same : (n : ℕ) (owner from : Owner)
      → IsShownAt tests rules log bundle.coin (seen log bundle.coin) made n owner
      → IsAt tests made.deposit made.owner spends_here n from → from ≡ owner
  owner-same n owner from (Deposited at is) (inl here) = here.1 ∙ sym is
  owner-same n owner from (Deposited at is) (inr link) = grind (arith, common_steps, has-above) steps 20000
  owner-same n owner from (Transferred s above) (inl here) = absurd (omega (arith, above, here.0))
  owner-same n owner from (Transferred s above) (inr link) =
      sym link.3 ∙ ap (λ (tx : SignedTx). tx.body.to) (sym (link-tx n owner s link.0 link.1 link.2)) ∙ s.to

  -- the link after a block, with what shows it
  after : (n : ℕ) (link : Link) → link_after own n ≡ Some link
      → Follows tests made.deposit made.owner spends_here n link
  after n link is = follows tests made.deposit made.owner spends_here n link linked rise is

  signed-by : (n : ℕ) (owner : Owner) (link : Link)
      → IsShownAt tests rules log bundle.coin (seen log bundle.coin) made n owner
      → Follows tests made.deposit made.owner spends_here n link → tests.is_signed link.tx owner ≡ true
  signed-by n owner link at f =
      ap (tests.is_signed link.tx) (sym (owner-same n owner f.own at f.at)) ∙ f.signed

  -- who owns the exit's block
  begun-at : (block parent : ℕ) (owner parent_owner : Owner)
      → IsBegun tests rules log bundle.coin (seen log bundle.coin) made block parent owner parent_owner
      → IsShownAt tests rules log bundle.coin (seen log bundle.coin) made block owner
  begun-at block parent owner parent_owner (OfDeposit at none is) = Deposited at is
  begun-at block parent owner parent_owner (OfSpend s above child at below) = Transferred s above

  -- and its parent, where the parent isn't 0
  parent-at : (block parent : ℕ) (owner parent_owner : Owner) → 0 < parent
      → IsBegun tests rules log bundle.coin (seen log bundle.coin) made block parent owner parent_owner
      → IsShownAt tests rules log bundle.coin (seen log bundle.coin) made parent parent_owner
  parent-at block parent owner parent_owner some (OfDeposit at none is) = absurd (omega arith)
  parent-at block parent owner parent_owner some (OfSpend s above child at below) = at

  -- an exit of the tip has the history's parent, so that the link after an earlier block comes no later
  within-parent : (block parent : ℕ) (owner parent_owner : Owner)
      → IsBegun tests rules log bundle.coin (seen log bundle.coin) made block parent owner parent_owner
      → block ≡ tip_from made.deposit spends_here → (n : ℕ) (link : Link) → n < parent
      → next_link n made.deposit spends_here ≡ Some link → link.block ≤ parent
  within-parent block parent owner parent_owner (OfDeposit at none is) tip n link less next = absurd (omega arith)
  within-parent block parent owner parent_owner (OfSpend s above child at below) tip n link less next =
      elim (tip-link made.deposit spends_here) [
        | inl same ↦ absurd (omega (arith, above, tip, same))
        | inr last ↦
            let tx = link-tx block owner s last.0 last.1 (last.2 ∙ sym tip) in
            let same : last.0.tx.body.parent ≡ parent =
            ap (λ (t : SignedTx). t.body.parent) (sym tx) ∙ child in
            next_link-ordered tests made.deposit made.owner spends_here n parent link last.0 linked rise next
            (grind (arith, common_steps, next_link-parent) steps 20000) less
      ]

  -- ---- each kind

  module _ (x : Exit) (is : IsShownExit tests rules log x) (mine : x.coin ≡ bundle.coin)
      (found : exit_at log bundle.coin x.block ≡ Some x) where
    -- what is shown of the exit is of this coin
    begun : IsBegun tests rules log bundle.coin (seen log bundle.coin) made x.block x.parent x.owner x.parent_owner
    begun =
        let same : is.made ≡ made =
        some_same is.made made (sym is.there ∙ ap (coin_at log) mine ∙ there) in
        subst (λ m. IsBegun tests rules log bundle.coin (seen log bundle.coin) m x.block x.parent x.owner
        x.parent_owner) same
        (subst (λ c. IsBegun tests rules log c (seen log c) is.made x.block x.parent x.owner x.parent_owner) mine
        is.begun)

    challenges : AllByRecursion
        (IsShownChallenge tests rules log bundle.coin (seen log bundle.coin) made x.parent) x.challenges
    challenges = grind (arith, common_steps, some_same, seen) steps 20000

    after-accepted : (link : Link) → link_after own x.block ≡ Some link → now log < x.start + CHALLENGE_WINDOW
        → CancelsAfter tests rules log bundle.coin x.block link.opening
    after-accepted link next early =
        let f = after x.block link next in
        let o = opened link f.has in
        record {
          exit = x;
          stands = found;
          in_time = early;
          later = omega (arith, f.above, o.block);
          tx = link.tx;
          shown = o.shown;
          child = f.child;
          signed = signed-by x.block x.owner link (begun-at x.block x.parent x.owner x.parent_owner begun) f;
        }

    between-accepted : (link : Link) → tip_of own < x.block → link_after own x.parent ≡ Some link
        → now log < x.start + CHALLENGE_WINDOW → CancelsBetween tests rules log bundle.coin x.block link.opening
    between-accepted link beyond next early =
        let f = after x.parent link next in
        let o = opened link f.has in
        let some : 0 < x.parent = omega (arith, deposit-above log bundle.coin made there, f.low) in
        record {
          exit = x;
          stands = found;
          in_time = early;
          parent = some;
          later = omega (arith, f.above, o.block);
          earlier = omega (arith, tip-is own, has-tip made.deposit spends_here link rise f.has, o.block);
          tx = link.tx;
          shown = o.shown;
          child = f.child;
          signed = signed-by x.parent x.parent_owner link
              (parent-at x.block x.parent x.owner x.parent_owner some begun) f;
        }

    respond-accepted : (challenge : Challenge) (link : Link) → x.block ≡ tip_of own → Has x.challenges challenge
        → challenge.answered ≡ false → link_after own challenge.block ≡ Some link
        → now log < challenge.at + RESPONSE_WINDOW
        → Responds tests rules log bundle.coin x.block challenge.block link.opening
    respond-accepted challenge link at has still next early =
        let f = after challenge.block link next in
        let o = opened link f.has in
        let shown = all-has (IsShownChallenge tests rules log bundle.coin (seen log bundle.coin) made x.parent)
        x.challenges challenge challenges has in
        let most = within-parent x.block x.parent x.owner x.parent_owner begun (at ∙ tip-is own) challenge.block link
        shown.below next in
        record {
          exit = x;
          stands = found;
          challenge = challenge;
          there = challenge-stands log bundle.coin x.block x challenge found has;
          open_still = still;
          in_time = early;
          later = omega (arith, f.above, o.block);
          within = omega (arith, most, o.block);
          tx = link.tx;
          shown = o.shown;
          child = f.child;
          signed = signed-by challenge.block challenge.owner link shown.shown f;
        }

    -- no challenge is at the tip
    none-at : (n m : ℕ) → is_challenged n (map challenge_view x.challenges) ≡ false → m ≡ n
        → challenge_at m x.challenges ≡ None
    none-at n m none same =
        ap (λ k. challenge_at k x.challenges) same
        ∙ none-found (is_at n) x.challenges
        (sym (any-map challenge_view (λ (view : ChallengeView). view.block == n) x.challenges) ∙ none)

    at-deposit : made.deposit < x.parent → is_challenged made.deposit (map challenge_view x.challenges) ≡ false
        → now log < x.start + CHALLENGE_WINDOW → CHALLENGE_BOND ≤ balance_of log account
        → Challenges tests rules log account bundle.coin x.block (AtDeposit made.deposit)
    at-deposit before none early covered = record {
      exit = x;
      stands = found;
      in_time = early;
      before = grind (arith, common_steps, and_from, eq-eqb, lt-ltb) steps 20000;
      owner = made.owner;
      owner_shown = ap (option_map (λ (m : CoinView). m.owner)) there;
      none_there = none-at made.deposit made.deposit none refl;
      covered = covered;
    }

    at-link : (link : Link) → Has spends_here link → link.block < x.parent
        → is_challenged link.block (map challenge_view x.challenges) ≡ false
        → now log < x.start + CHALLENGE_WINDOW → CHALLENGE_BOND ≤ balance_of log account
        → Challenges tests rules log account bundle.coin x.block (Spend link.opening)
    at-link link has before none early covered =
        let o = opened link has in
        let n : ℕ = link.opening.block in
        let low : made.deposit < n = omega (arith, has-above made.deposit spends_here link rise has, o.block) in
        let less : n < x.parent = omega (arith, o.block) in
        record {
          exit = x;
          stands = found;
          in_time = early;
          before = grind (arith, common_steps, and_from, lt-ltb) steps 20000;
          owner = link.tx.body.to;
          owner_shown = ap (option_map (λ (tx : SignedTx). tx.body.to))
              (transfers_are_shown tests rules log bundle.coin link.opening link.tx o.shown);
          none_there = none-at link.block n none o.block;
          covered = covered;
        }

    before-accepted : tip_of own < x.parent → is_challenged (tip_of own) (map challenge_view x.challenges) ≡ false
        → now log < x.start + CHALLENGE_WINDOW → CHALLENGE_BOND ≤ balance_of log account
        → Challenges tests rules log account bundle.coin x.block (tip_shown own)
    before-accepted = grind (arith, common_steps, at-deposit, at-link, got-has) steps 20000

    -- each call that is due for the exit is accepted
    accepted : (call : RootCall) → IsDue log account own (exit_view x) call → is_poor_before log account call ≡ false
        → is_accepted (answer_to tests rules log call) ≡ true
    accepted call (DueAfter link next early same) money =
        grind (arith, common_steps, shown_calls_are_accepted, after-accepted) steps 20000
    accepted call (DueBetween link beyond next early same) money =
        grind (arith, common_steps, shown_calls_are_accepted, between-accepted) steps 20000
    accepted call (DueBefore before none early same) money =
        let covered : CHALLENGE_BOND ≤ balance_of log account =
        ltb-false (balance_of log account) CHALLENGE_BOND (ap (is_poor_before log account) same ∙ money) in
        grind (arith, common_steps, shown_calls_are_accepted, before-accepted) steps 20000
    accepted call (DueRespond view link at has still next early same) money =
        grind (arith, common_steps, has-map, shown_calls_are_accepted, respond-accepted) steps 20000

-- an exit of the coin whose view is shown
view-exit : (log : List RootCall) (c : ℕ) (view : ExitView) → Has (exits_of log c) view
    → (x : Exit) × Has (exits log) x × (x.coin ≡ c) × (exit_view x ≡ view)
unfolding exits_of
view-exit log c view h = grind (arith, common_steps, has-map, has-filter, eqb-true) steps 20000

pub due_calls_are_accepted : DueCallsAreAccepted
due_calls_are_accepted tests rules log account bundle links call legal is one due money =
    let own_links : Links = links_of rules is.made bundle in
    let mine : Contains (due_of log account (record { links = own_links })) call =
    subst (λ (l : Links). Contains (due_of log account (record { links = l })) call) is.shown due in
    let view = has-flat_map (due_for log account own_links) (exits_of log bundle.coin) call
    (contains-has (due_of log account (record { links = own_links })) call mine) in
    let exit = view-exit log bundle.coin view.0 view.1 in
    let x : Exit = exit.0 in
    let found : exit_at log bundle.coin x.block ≡ Some x =
    ap (λ c. exit_at log c x.block) (sym exit.2) ∙ stands log x exit.1 in
    let d : IsDue log account own_links (exit_view x) call =
    subst (λ (v : ExitView). IsDue log account own_links v call) (sym exit.3)
    (due_for-due log account own_links view.0 call view.2) in
    accepted tests rules log account bundle is.made is.coin one
    (recursion_from_All (λ o. opens_block tests log bundle.coin o ≡ true) bundle.openings is.opened)
    (subst (λ (l : Links). AreLinked tests l.deposit l.owner l.spends) is.shown is.linked)
    (rises-from is.made.deposit (links_in rules bundle.coin bundle.openings)
    (subst (λ (l : Links). AllPairs (λ earlier later. earlier < later)
    (l.deposit ∷ map (λ (link : Link). link.block) l.spends)) is.shown (links_rise tests rules log bundle links is)))
    x (all-has (IsShownExit tests rules log) (exits log) x (exits-shown tests rules log legal) exit.1) exit.2 found
    call d money
